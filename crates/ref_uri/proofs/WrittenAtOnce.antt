-- The normal form of a target, written at once from the target's parts.
use Rattle.std.proofs.Common.{◌≡◌, ℕ, true, ◌||◌, List, ◌∷◌, ◌++◌, eqb, refl, sym, ap, ◌∙◌, subst, is_some, option_copied}
use Rattle.std.specs.List.{list_all, AllByRecursion}
use Rattle.std.proofs.lemmas.Bool.{and_parts}
use Rattle.ref_uri.specs.declared.lengths.Lengths.{Lengths}
use Rattle.ref_uri.specs.declared.target.PathOf.{PathOf}
use Rattle.ref_uri.specs.declared.target.PathOf.TheVariants.{Kept, OfBase, Removed, Merged}
use Rattle.ref_uri.specs.declared.target.Target.{Target}
use Rattle.ref_uri.specs.declared.written.Form.TheVariants.{Given, Normal, NormalTarget}
use Rattle.ref_uri.specs.Characters.{has_whole_triples, is_path_character}
use Rattle.ref_uri.specs.Components.{Components, components, are_components, text_of, scheme, is_path}
use Rattle.ref_uri.specs.DotSegments.{segments, remove_dot_segments}
use Rattle.ref_uri.specs.inner.Lengths.{IsParsedUri}
use Rattle.ref_uri.specs.Normal.{guarded_path, normal_components, normal_text, normal_form}
use Rattle.ref_uri.specs.Resolution.{target_text, resolved_components}
use Rattle.ref_uri.specs.inner.Target.{given_path, written_path, written_components, lengths_of_components, AreParts, LosesSameDots, IsTarget}
use Rattle.ref_uri.proofs.EncodedLemmas.{whole-append, encoded-append}
use Rattle.ref_uri.proofs.NormalTargets.{normal_parts_are}
use Rattle.ref_uri.proofs.NormalTwice.{removed_twice, guarded_removed}
use Rattle.ref_uri.proofs.PathValid.{each_append, removed_is_path}
use Rattle.ref_uri.proofs.PlainDots.{Stays, segments_stay, removed_normal}
use Rattle.ref_uri.proofs.SegmentLemmas.{segments-append}
use Rattle.ref_uri.proofs.TargetLemmas.{as_given, map_given}
use Rattle.ref_uri.proofs.UniqueLemmas.{components-text_of}
use Rattle.ref_uri.proofs.ValidTargets.{resolved_is_valid}
use Rattle.ref_uri.proofs.TargetLemmas.{some_there}
use Rattle.ref_uri.proofs.WrittenUri.{normal_text_of, resolved_text_of, normal_parsed, normal_scheme, target_has_scheme}

whole_path : (path : List ℕ) → is_path path ≡ true → has_whole_triples path ≡ true
whole_path path h = (and_parts (list_all (λ x. is_path_character x || eqb x 37) path) (has_whole_triples path) h).1

-- a path that loses its dot segments before its triples are decoded, and after
removed_at_once : (path : List ℕ) → has_whole_triples path ≡ true → AllByRecursion Stays (segments path) → remove_dot_segments (normal_text path) ≡ remove_dot_segments (normal_text (remove_dot_segments path))
removed_at_once path whole stay = sym (removed_twice (normal_text path)) ∙ ap remove_dot_segments (removed_normal path whole stay)

path_at_once : (path : PathOf) → AreParts path → LosesSameDots path → written_path Normal path ≡ written_path NormalTarget path
path_at_once (Kept path) h same = absurd same
path_at_once (OfBase path) h same = refl
path_at_once (Removed path) h same = removed_at_once path.now (whole_path path.now h) (segments_stay path.now (whole_path path.now h) same)
path_at_once (Merged directory path) h same =
    let front = whole_path directory.now h.0 in
    let rest = whole_path path.now h.1 in
    removed_at_once (directory.now ++ 47 ∷ path.now) (whole-append directory.now (47 ∷ path.now) front rest)
    (subst (AllByRecursion Stays) (sym (segments-append directory.now path.now)) (each_append Stays (segments directory.now) (segments path.now) (segments_stay directory.now front same.0) (segments_stay path.now rest same.1)))

-- the components of a target that is written at once
pub written_at_once : (t : Target) → IsTarget t → LosesSameDots t.path → written_components Normal t ≡ written_components NormalTarget t
written_at_once t is same = ap (λ (p : List ℕ). record (written_components Normal t) { path = guarded_path (option_copied t.authority) p }) (path_at_once t.path is.path_test same)

-- whole triples are in a path as it is given
pub given_is_whole : (path : PathOf) → AreParts path → has_whole_triples (given_path path) ≡ true
given_is_whole (Kept path) h = whole_path path.now h
given_is_whole (OfBase path) h = whole_path path.now h
given_is_whole (Removed path) h = whole_path (remove_dot_segments path.now) (removed_is_path path.now h)
given_is_whole (Merged directory path) h = whole_path (remove_dot_segments (directory.now ++ 47 ∷ path.now)) (removed_is_path (directory.now ++ 47 ∷ path.now) (encoded-append is_path_character directory.now (47 ∷ path.now) h.0 h.1))

-- a base with a scheme
pub scheme_there : (b : Components) (base : List ℕ) → b ≡ components base → is_some (scheme base) ≡ true → is_some b.scheme ≡ true
scheme_there b base is there = ap (λ (d : Components). is_some d.scheme) is ∙ there

-- the components of a target against it, in normal form
pub written_normal : (t : Target) (b r : Components) → is_some b.scheme ≡ true → written_components Given t ≡ resolved_components b r → written_components NormalTarget t ≡ normal_components (resolved_components b r)
written_normal t b r based given =
    let s = option_copied t.scheme in
    let a = option_copied t.authority in
    let q = option_copied t.query in
    let f = option_copied t.fragment in
    let there = ap is_some (sym (map_given s)) ∙ ap (λ (d : Components). is_some d.scheme) given ∙ target_has_scheme b r based in
    normal_parts_are s a (guarded_path a (given_path t.path)) (written_path NormalTarget t.path) q f there (sym (guarded_removed a (given_path t.path)))
    ∙ ap normal_components (sym (as_given s a (guarded_path a (given_path t.path)) q f) ∙ given)

-- the normal form of a target, and that it is a URI
pub normal_of_target : (b r : Components) (base reference : List ℕ) → b ≡ components base → r ≡ components reference → are_components b ≡ true → are_components r ≡ true → is_some b.scheme ≡ true → text_of (normal_components (resolved_components b r)) ≡ normal_form (target_text base reference)
normal_of_target b r base reference is are h k based =
    let s = some_there b.scheme based in
    let target = resolved_components b r in
    normal_text_of target (text_of target) (sym (components-text_of target (resolved_is_valid b r s.0 s.1 h k))) ∙ ap normal_form (resolved_text_of b r base reference is are)

pub normal_target_uri : (b r : Components) (text : List ℕ) (lengths : Lengths) → are_components b ≡ true → are_components r ≡ true → is_some b.scheme ≡ true → text ≡ text_of (normal_components (resolved_components b r)) → lengths ≡ lengths_of_components (normal_components (resolved_components b r)) → IsParsedUri text lengths
normal_target_uri b r text lengths h k based written long =
    let s = some_there b.scheme based in
    let target = resolved_components b r in
    let valid = resolved_is_valid b r s.0 s.1 h k in
    (normal_parsed target text lengths valid written long, normal_scheme target text valid written ∙ target_has_scheme b r based)
