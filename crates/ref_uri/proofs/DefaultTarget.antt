-- The target of a normal form against the base of texts without a scheme is the normal form of a target.
use Rattle.std.proofs.Common.{◌≡◌, ℕ, Bool, true, false, ◌||◌, List, [], length, get_or, eqb, refl, sym, ap, ◌∙◌, arith, Option, Some, None, is_some, option_map, codes}
use Rattle.std.specs.List.{list_all}
use Rattle.std.proofs.lemmas.Bool.{and_parts, false≢true}
use Rattle.ref_uri.specs.declared.lengths.Lengths.{Lengths}
use Rattle.ref_uri.specs.Characters.{has_whole_triples, is_path_character}
use Rattle.ref_uri.specs.Components.{Components, components, scheme, text_of}
use Rattle.ref_uri.specs.DotSegments.{remove_dot_segments}
use Rattle.ref_uri.specs.inner.Lengths.{IsParsedUri}
use Rattle.ref_uri.specs.Normal.{normal_components, normal_text, normal_authority, normal_form}
use Rattle.ref_uri.specs.Reference.{is_uri_reference}
use Rattle.ref_uri.specs.Resolution.{query_or, target_path, target_text, resolved_components}
use Rattle.ref_uri.specs.inner.Target.{lengths_of_components, path_past, target_with_dots}
use Rattle.ref_uri.specs.Targets.{default_base}
use Rattle.ref_uri.proofs.Meanings.{default_is_reference, default_has_scheme}
use Rattle.ref_uri.proofs.NormalLemmas.{normal_character}
use Rattle.ref_uri.proofs.NormalTargets.{normal_parts_are, dots_with_authority, dots_of_base, dots_past}
use Rattle.ref_uri.proofs.NormalTwice.{default_components, default_is, authority_settled, root_is, components_of_normal}
use Rattle.ref_uri.proofs.TargetLemmas.{the_components, each_same, none_in_front, slash_in_front, resolved_of_base, resolved_path}
use Rattle.ref_uri.proofs.UniqueLemmas.{tested}
use Rattle.ref_uri.proofs.ValidTargets.{normal_is_valid}
use Rattle.ref_uri.proofs.WrittenUri.{components_hold, resolved_text_of, resolved_uri}

-- a reference without a scheme, of such components
default_parts : (a : Option (List ℕ)) (path : List ℕ) (q f : Option (List ℕ)) → has_whole_triples path ≡ true → resolved_components default_components (the_components None (option_map normal_authority a) (normal_text path) (option_map normal_text q) (option_map normal_text f)) ≡ normal_components (target_with_dots default_components (the_components None a path q f))
default_parts (Some x) path q f whole =
    normal_parts_are (Some (codes "json-schema")) (Some x) path (remove_dot_segments (normal_text path)) q f refl refl
    ∙ ap normal_components (sym (dots_with_authority default_components (the_components None (Some x) path q f) refl refl))
default_parts None path q f whole = by_path (eqb (length path) 0) refl
  where
    n : Components
    n = the_components None None (normal_text path) (option_map normal_text q) (option_map normal_text f)

    at_root : (given removed : List ℕ) (other : Option (List ℕ)) → removed ≡ remove_dot_segments (normal_text given) → the_components (Some (codes "json-schema")) (Some []) removed (option_map normal_text other) (option_map normal_text f) ≡ normal_components (the_components (Some (codes "json-schema")) (Some []) given other f)
    at_root given removed other is =
        ap (λ x. the_components (Some (codes "json-schema")) (Some x) removed (option_map normal_text other) (option_map normal_text f)) (sym authority_settled)
        ∙ normal_parts_are (Some (codes "json-schema")) (Some []) given removed other f refl is

    own_query : (q : Option (List ℕ)) → query_or (option_map normal_text q) None ≡ option_map normal_text (query_or q None)
    own_query None = refl
    own_query (Some x) = refl

    behind : (slash : Bool) → eqb (get_or path 0 0) 47 ≡ slash → target_path default_components (normal_text path) ≡ remove_dot_segments (normal_text (path_past default_components path))
    behind true e =
        let slash : eqb (get_or (normal_text path) 0 0) 47 ≡ true = slash_in_front path whole ∙ e in
        rw (slash, e) refl
    behind false e =
        let other : eqb (get_or (normal_text path) 0 0) 47 ≡ false = slash_in_front path whole ∙ e in
        rw (other, e) (ap remove_dot_segments (sym (normal_character (λ c. c) 47 path (λ f. absurd (omega arith)))))

    by_path : (empty : Bool) → eqb (length path) 0 ≡ empty → resolved_components default_components n ≡ normal_components (target_with_dots default_components (the_components None None path q f))
    by_path true e =
        resolved_of_base default_components n refl refl (none_in_front path whole ∙ e)
        ∙ ap (λ o. the_components (Some (codes "json-schema")) (Some []) (codes "/") o (option_map normal_text f)) (own_query q)
        ∙ at_root (codes "/") (codes "/") (query_or q None) (sym root_is)
        ∙ ap normal_components (sym (dots_of_base default_components (the_components None None path q f) refl refl e))
    by_path false e =
        resolved_path default_components n refl refl (none_in_front path whole ∙ e)
        ∙ at_root (path_past default_components path) (target_path default_components (normal_text path)) q (behind (eqb (get_or path 0 0) 47) refl)
        ∙ ap normal_components (sym (dots_past default_components (the_components None None path q f) refl refl e))

-- the same of a text
pub default_target : (text : List ℕ) → is_uri_reference text ≡ true → is_some (scheme text) ≡ false → normal_components (target_with_dots (components default_base) (components text)) ≡ resolved_components (components default_base) (normal_components (components text))
default_target text h none =
    let c = components text in
    let t = tested c (components_hold text h) in
    let absent : scheme text ≡ None = no_scheme (scheme text) none in
    let c_is : c ≡ the_components None c.authority c.path c.query c.fragment = each_same c (the_components None c.authority c.path c.query c.fragment) absent refl refl refl refl in
    let whole : has_whole_triples c.path ≡ true = (and_parts (list_all (λ x. is_path_character x || eqb x 37) c.path) (has_whole_triples c.path) t.path_test).1 in
    ap (λ d. normal_components (target_with_dots d c)) default_is ∙ ap (λ d. normal_components (target_with_dots default_components d)) c_is
    ∙ sym (default_parts c.authority c.path c.query c.fragment whole)
    ∙ ap (λ d. resolved_components default_components (normal_components d)) (sym c_is) ∙ ap (λ d. resolved_components d (normal_components c)) (sym default_is)
  where
    no_scheme : (o : Option (List ℕ)) → is_some o ≡ false → o ≡ None
    no_scheme None k = refl
    no_scheme (Some x) k = absurd (false≢true (sym k))

-- its text, and that it is a URI
pub default_text : (base reference text written : List ℕ) → base ≡ default_base → reference ≡ text → is_uri_reference text ≡ true → is_some (scheme reference) ≡ false → written ≡ text_of (normal_components (target_with_dots (components base) (components reference))) → written ≡ target_text default_base (normal_form text)
default_text base reference text written based same h none is =
    let valid = ap is_uri_reference same ∙ h in
    is ∙ ap (λ b. text_of (normal_components (target_with_dots (components b) (components reference)))) based ∙ ap text_of (default_target reference valid none)
    ∙ resolved_text_of (components default_base) (normal_components (components reference)) default_base (normal_form reference) refl (sym (components_of_normal reference valid))
    ∙ ap (λ t. target_text default_base (normal_form t)) same

pub default_uri : (base reference text written : List ℕ) (lengths : Lengths) → base ≡ default_base → reference ≡ text → is_uri_reference text ≡ true → is_some (scheme reference) ≡ false → written ≡ text_of (normal_components (target_with_dots (components base) (components reference))) → lengths ≡ lengths_of_components (normal_components (target_with_dots (components base) (components reference))) → IsParsedUri written lengths
default_uri base reference text written lengths based same h none is long =
    let valid = ap is_uri_reference same ∙ h in
    let target = ap (λ b. normal_components (target_with_dots (components b) (components reference))) based ∙ default_target reference valid none in
    resolved_uri (components default_base) (normal_components (components reference)) written lengths default_has_scheme (components_hold default_base default_is_reference) (normal_is_valid (components reference) (components_hold reference valid))
    (is ∙ ap text_of target) (long ∙ ap lengths_of_components target)
