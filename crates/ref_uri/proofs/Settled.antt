-- A reference that is its own target and its own normal form, by its components.
use Rattle.std.proofs.Common.{◌≡◌, ℕ, true, false, List, [], refl, sym, ap, ◌∙◌, append-nil, Option, Some, None, is_some}
use Rattle.std.proofs.lemmas.Bool.{and_parts, not-true}
use Rattle.ref_uri.specs.Components.{Components, components, are_components, text_of, scheme, is_path_after, begins_with_slashes}
use Rattle.ref_uri.specs.DotSegments.{segments, remove_dot_segments}
use Rattle.ref_uri.specs.Normal.{guarded_path, normal_components, normal_form, normal_path}
use Rattle.ref_uri.specs.Resolution.{target_text, resolved_components}
use Rattle.ref_uri.specs.inner.Removal.{AreNames}
use Rattle.ref_uri.specs.inner.Target.{IsSettled}
use Rattle.ref_uri.specs.declared.dots.Progress.TheVariants.{Front}
use Rattle.ref_uri.proofs.NameLemmas.{names_after}
use Rattle.ref_uri.proofs.RemovalLaws.{written_is_removed}
use Rattle.ref_uri.proofs.StructureLemmas.{text_of-components}
use Rattle.ref_uri.proofs.TargetLemmas.{own_path, resolved_of_scheme, each_same, the_components}
use Rattle.ref_uri.proofs.UniqueLemmas.{tested}
use Rattle.ref_uri.proofs.WrittenUri.{normal_text_of, resolved_text_of}

-- a path none of whose segments is a dot segment
pub names_stay : (path : List ℕ) → AreNames (segments path) → remove_dot_segments path ≡ path
names_stay path names =
    let all = names_after Front [] (segments path) path refl names in
    sym (written_is_removed path) ∙ rw (all.0, all.1) (append-nil path)

-- a path of components needs no guard
unguarded : (c : Components) → are_components c ≡ true → guarded_path c.authority c.path ≡ c.path
unguarded c h = by_parts c.scheme c.authority refl refl
  where
    place : (s a : Option (List ℕ)) → c.scheme ≡ s → c.authority ≡ a → is_path_after s a c.path ≡ true
    place s a si ai = ap (λ x. is_path_after x a c.path) (sym si) ∙ ap (λ x. is_path_after c.scheme x c.path) (sym ai) ∙ (tested c h).place_test

    by_parts : (s a : Option (List ℕ)) → c.scheme ≡ s → c.authority ≡ a → guarded_path a c.path ≡ c.path
    by_parts s (Some x) si ai = refl
    by_parts None None si ai =
        let none : begins_with_slashes c.path ≡ false = not-true (begins_with_slashes c.path) (and_parts _ _ (place None None si ai)).0 in
        rw none refl
    by_parts (Some s) None si ai =
        let none : begins_with_slashes c.path ≡ false = not-true (begins_with_slashes c.path) (place (Some s) None si ai) in
        rw none refl

-- the normal form of its components
settled_normal : (c : Components) → are_components c ≡ true → IsSettled c → normal_components c ≡ c
settled_normal c h s =
    let path : guarded_path c.authority c.path ≡ normal_path c.scheme c.authority c.path = own_path c h c.path (λ some. sym (ap remove_dot_segments s.path ∙ s.removed some)) (λ none. sym s.path) in
    each_same (normal_components c) c s.scheme s.authority (sym path ∙ unguarded c h) s.query s.fragment

-- its target's components
settled_target : (base c : Components) → are_components c ≡ true → IsSettled c → is_some c.scheme ≡ true → resolved_components base c ≡ c
settled_target base c h s there =
    resolved_of_scheme base c there
    ∙ ap (λ p. the_components c.scheme c.authority p c.query c.fragment) (ap (guarded_path c.authority) (s.removed there) ∙ unguarded c h)

-- the text itself
pub settled_form : (c : Components) (text : List ℕ) → c ≡ components text → are_components c ≡ true → IsSettled c → normal_form text ≡ text
settled_form c text is h s = sym (normal_text_of c text is) ∙ ap text_of (settled_normal c h s ∙ is) ∙ text_of-components text

-- with a scheme, the normal form of its target
pub settled_resolved : (c : Components) (base text : List ℕ) → c ≡ components text → are_components c ≡ true → IsSettled c → is_some (scheme text) ≡ true → normal_form (target_text base text) ≡ text
settled_resolved c base text is h s there =
    ap normal_form (sym (resolved_text_of (components base) c base text refl is) ∙ ap text_of (settled_target (components base) c h s (ap (λ (d : Components). is_some d.scheme) is ∙ there) ∙ is) ∙ text_of-components text) ∙ settled_form c text is h s
