-- What a name leads to, by what its URI means.
use Rattle.std.proofs.Common.{◌≡◌, ℕ, Bool, true, false, List, [], ◌∷◌, Option, Some, None, Ok, eqb, refl, sym, ap, ◌∙◌}
use Rattle.std.specs.Prelude.{not, is_some}
use Rattle.std.specs.Result.{result_ok}
use Rattle.ref_uri.specs.Targets.{target, fragment_part}
use Rattle.ref_definitions.specs.World.{World}
use Rattle.ref_definitions.specs.Places.{Place}
use Rattle.ref_definitions.specs.Resources.{meant_place}
use Rattle.ref_definitions.specs.Anchors.{Named, anchor}
use Rattle.ref_definitions.specs.Lookup.{Resolver, lookup, at_fragment, moved_resolver, named_found}
use Rattle.ref_resolver.specs.inner.Names.{is_name, at_name}
use Rattle.ref_resolver.proofs.Faults.{goes_on}
use Rattle.ref_resolver.proofs.Lookups.{lookup_present}
use Rattle.ref_resolver.proofs.Based.{anchor_means}
use Rattle.ref_resolver.proofs.Naming.{anchor_has, answered}

named_by : (w : World) (r : Resolver) (p : Place) (c : ℕ) (text : List ℕ) (t : Bool) → eqb c 47 ≡ t → not t ≡ true → at_fragment w r p (c ∷ text) ≡ at_name w r (c ∷ text)
named_by w r p c text false is name = rw is refl
named_by w r p c text true is name = cc

named_there : (w : World) (r : Resolver) (p : Place) (name : List ℕ) → is_name name ≡ true → at_fragment w r p name ≡ at_name w r name
named_there w r p [] name = cc
named_there w r p (c ∷ text) name = named_by w r p c text (eqb c 47) refl name

-- a URI that means no place
pub absent_of : (found : Option Place) → is_some found ≡ false → found ≡ None
absent_of None is = refl
absent_of (Some p) is = cc

present_of : (found : Option Place) → is_some found ≡ true → (p : Place) × (found ≡ Some p)
present_of None is = cc
present_of (Some p) is = (p, refl)

-- a name under one that means a place
pub lookup_named : (w : World) (r : Resolver) (reference uri name : List ℕ) → target r.base reference ≡ Ok uri → is_some (meant_place w uri) ≡ true → fragment_part reference ≡ name → is_name name ≡ true
    → lookup w r reference ≡ at_name w (moved_resolver r uri) name
lookup_named w r reference uri name is there fragment named =
    let (p, some) = present_of (meant_place w uri) there in
    lookup_present w r reference uri p is some ∙ ap (at_fragment w (moved_resolver r uri) p) fragment ∙ named_there w (moved_resolver r uri) p name named

-- one that an anchor has
lookup_found : (w : World) (r : Resolver) (reference uri name : List ℕ) (n : Named) → target r.base reference ≡ Ok uri → fragment_part reference ≡ name → is_name name ≡ true → result_ok (anchor w uri name) ≡ Some n
    → lookup w r reference ≡ named_found w (moved_resolver r uri) n n.kind
lookup_found w r reference uri name n is fragment named has =
    lookup_named w r reference uri name is (anchor_means w uri name n has) fragment named
    ∙ goes_on (anchor w uri name) (λ m. named_found w (moved_resolver r uri) m m.kind) n (answered (anchor w uri name) n has)

-- the same by a text of the URI, with what else is known of the anchor
pub named_lookup : (At : Named → Type 0) (w : World) (r : Resolver) (reference uri name text : List ℕ) → text ≡ uri → target r.base reference ≡ Ok uri → fragment_part reference ≡ name → is_name name ≡ true
    → (n : Named) × (result_ok (anchor w text name) ≡ Some n) × At n
    → (n : Named) × (lookup w r reference ≡ named_found w (moved_resolver r uri) n n.kind) × (n.name ≡ name) × (anchor w uri name ≡ Ok n) × At n
named_lookup At w r reference uri name text same is fragment named (n, found, at) =
    let has : result_ok (anchor w uri name) ≡ Some n = ap (λ u. result_ok (anchor w u name)) (sym same) ∙ found in
    (n, lookup_found w r reference uri name n is fragment named has, anchor_has w uri name n has, answered (anchor w uri name) n has, at)
