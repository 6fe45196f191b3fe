-- Entries of the references of places that are listed one after another.
use Rattle.std.proofs.Common.{◌≡◌, List, [], ◌∷◌, ◌++◌, map, flat_map, Option, Some, None, ap, sym, subst, ◌∙◌, append-nil}
use Rattle.std.specs.List.{AllZip}
use Rattle.std.specs.Option.{option_to_list}
use Rattle.std.proofs.lemmas.List.{map-append}
use Rattle.std.proofs.lemmas.Slice.Zip.{all_zipped_more}
use Rattle.std.proofs.lemmas.List.Concat.{flat_map-append}
use Rattle.ref_definitions.specs.World.{World}
use Rattle.ref_index.specs.declared.places.Place.{Place}
use Rattle.ref_index.specs.Listing.{listed_of}
use Rattle.ref_lint.specs.declared.entry.Dangling.{Dangling}
use Rattle.ref_lint.specs.Dangling.{dangling_at}
use Rattle.ref_lint.specs.Entries.{IsEntryOf}
use Rattle.ref_lint.specs.inner.Listed.{AreEntries}

one_more : (world : World) (ps : List Place) (p : Place)
    → flat_map (dangling_at world) (map listed_of (ps ++ p ∷ [])) ≡ flat_map (dangling_at world) (map listed_of ps) ++ dangling_at world (listed_of p)
one_more world ps p =
    ap (flat_map (dangling_at world)) (map-append listed_of ps (p ∷ []))
    ∙ flat_map-append (dangling_at world) (map listed_of ps) (listed_of p ∷ [])
    ∙ ap (λ l. flat_map (dangling_at world) (map listed_of ps) ++ l) (append-nil (dangling_at world (listed_of p)))

pub entry_of_one_more : (world : World) (ps : List Place) (p : Place) (entries : List Dangling) (entry : Option Dangling)
    → AllZip IsEntryOf entries (flat_map (dangling_at world) (map listed_of ps)) → AreEntries (dangling_at world (listed_of p)) entry
    → AllZip IsEntryOf (entries ++ option_to_list entry) (flat_map (dangling_at world) (map listed_of (ps ++ p ∷ [])))
entry_of_one_more world ps p entries None zip is =
    let before = flat_map (dangling_at world) (map listed_of ps) in
    let same : before ≡ flat_map (dangling_at world) (map listed_of (ps ++ p ∷ [])) = sym (one_more world ps p ∙ ap (λ l. before ++ l) is ∙ append-nil before) in
    subst (AllZip IsEntryOf (entries ++ [])) same (subst (λ es. AllZip IsEntryOf es before) (sym (append-nil entries)) zip)
entry_of_one_more world ps p entries (Some entry) zip (r, is, says) =
    let before = flat_map (dangling_at world) (map listed_of ps) in
    subst (AllZip IsEntryOf (entries ++ entry ∷ [])) (sym (one_more world ps p ∙ ap (λ l. before ++ l) is)) (all_zipped_more IsEntryOf entries before entry r zip says)
