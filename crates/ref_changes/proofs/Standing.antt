-- The places of registries, and where they are found.
use Rattle.std.proofs.Common.{◌≡◌, ℕ, decimal, List, [], ◌∷◌, map, flat_map, slice_get, Option, None, Some, option_map, option_and_then, option_copied, Bor, refl, ap, sym, ◌∙◌}
use Rattle.std.specs.Slice.{IsItemAt}
use Rattle.std.proofs.lemmas.Option.{slice_get-map}
use Rattle.ref_parts.specs.Table.{last_value}
use Rattle.ref_index.specs.declared.places.Place.{Place}
use Rattle.ref_index.specs.Listing.{listed_of}
use Rattle.ref_changes.specs.Moves.{Address}
use Rattle.ref_changes.specs.Sites.{Site, site_of, site_entries, site_at}
use Rattle.ref_changes.specs.Views.{site_of_place}
use Rattle.ref_changes.proofs.Lists.{got}

-- the places that are listed
pub sites_listed : (ps : List Place) → map site_of_place ps ≡ flat_map site_of (map listed_of ps)
sites_listed [] = refl
sites_listed (p ∷ ps) = ap (λ l. site_of_place p ∷ l) (sites_listed ps)

lent : {X : Type 0} (v : X → Site) (r : Option (Bor X)) → option_map (λ (p : Bor X). v p.now) r ≡ option_map v (option_copied r)
lent v None = refl
lent v (Some p) = refl

-- a place by its number
pub at_number : {X : Type 0} (v : X → Site) (xs : List X) (a : Address) (n : ℕ) (r : Option (Bor X))
    → last_value a.pointer (decimal a.document) (site_entries (map v xs)) ≡ Some n → IsItemAt xs n r
    → option_map (λ (p : Bor X). v p.now) r ≡ site_at (map v xs) a
at_number v xs a n r is there =
    lent v r ∙ ap (option_map v) (got xs n r there) ∙ sym (slice_get-map v xs n)
    ∙ sym (ap (option_and_then (slice_get (map v xs))) is)

-- none
pub at_none : (all : List Site) (a : Address) → last_value a.pointer (decimal a.document) (site_entries all) ≡ None → None ≡ site_at all a
at_none all a is = sym (ap (option_and_then (slice_get all)) is)
