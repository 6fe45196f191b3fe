-- The normal form of a target whose path still has its dot segments.
use Rattle.std.proofs.Common.{◌≡◌, ℕ, true, false, List, length, map, eqb, refl, ap, Option, Some, None, is_some, option_map}
use Rattle.std.specs.Char.{to_ascii_lowercase}
use Rattle.std.proofs.lemmas.Bool.{false≢true}
use Rattle.ref_uri.specs.Components.{Components}
use Rattle.ref_uri.specs.DotSegments.{remove_dot_segments}
use Rattle.ref_uri.specs.Normal.{guarded_path, normal_components, normal_text, normal_authority}
use Rattle.ref_uri.specs.Resolution.{query_or}
use Rattle.ref_uri.specs.inner.Target.{path_past, target_with_dots}
use Rattle.ref_uri.proofs.TargetLemmas.{the_components, some_there}

-- components with a scheme, each in normal form
pub normal_parts_are : (s a : Option (List ℕ)) (path p : List ℕ) (q f : Option (List ℕ)) → is_some s ≡ true → p ≡ remove_dot_segments (normal_text path) → the_components (option_map (map to_ascii_lowercase) s) (option_map normal_authority a) (guarded_path a p) (option_map normal_text q) (option_map normal_text f) ≡ normal_components (the_components s a path q f)
normal_parts_are None a path p q f there is = absurd (false≢true there)
normal_parts_are (Some x) a path p q f there is = ap (λ t. the_components (Some (map to_ascii_lowercase x)) (option_map normal_authority a) (guarded_path a t) (option_map normal_text q) (option_map normal_text f)) is

-- the cases of a target with its dot segments
pub dots_with_scheme : (base r : Components) → is_some r.scheme ≡ true → target_with_dots base r ≡ the_components r.scheme r.authority r.path r.query r.fragment
unfolding target_with_dots
dots_with_scheme base r there =
    let some = some_there r.scheme there in
    let scheme : r.scheme ≡ Some some.0 = some.1 in
    rw scheme refl

pub dots_with_authority : (base r : Components) → r.scheme ≡ None → is_some r.authority ≡ true → target_with_dots base r ≡ the_components base.scheme r.authority r.path r.query r.fragment
unfolding target_with_dots
dots_with_authority base r none there =
    let some = some_there r.authority there in
    let authority : r.authority ≡ Some some.0 = some.1 in
    rw (none, authority) refl

pub dots_of_base : (base r : Components) → r.scheme ≡ None → r.authority ≡ None → eqb (length r.path) 0 ≡ true → target_with_dots base r ≡ the_components base.scheme base.authority base.path (query_or r.query base.query) r.fragment
unfolding target_with_dots
dots_of_base base r s a empty = rw (s, a, empty) refl

pub dots_past : (base r : Components) → r.scheme ≡ None → r.authority ≡ None → eqb (length r.path) 0 ≡ false → target_with_dots base r ≡ the_components base.scheme base.authority (path_past base r.path) r.query r.fragment
unfolding target_with_dots
dots_past base r s a some = rw (s, a, some) refl
