-- The program's places as the definitions see them.
use Rattle.std.proofs.Common.{◌≡◌, refl, is_some, Option, ℕ, List, [], ◌++◌, ◌||◌, false, Some, None, ◌&&◌, not, bytes_eq, option_map, flat_map, codes, append-nil, ap, ◌∙◌}
use Rattle.std.specs.Prelude.{option_and_then, if◌then◌else◌}
use Rattle.std.specs.Option.{option_map_or}
use Rattle.ref_definitions.specs.Resources.{own_uri}
use Rattle.serde_json.specs.Data.{Data}
use Rattle.serde_json.specs.Find.{get, as_str}
use Rattle.ref_paths.specs.Path.{Part}
use Rattle.ref_draft.specs.declared.draft.Draft.{Draft}
use Rattle.ref_draft.specs.declared.draft.Draft.TheVariants.{Draft4, Draft6, Draft7, Draft201909, Draft202012, Unknown}
use Rattle.ref_draft.specs.Children.{Walked}
use Rattle.ref_uri.specs.Targets.{target}
use Rattle.ref_definitions.specs.Places.{base_within, child_place}
use Rattle.ref_definitions.specs.Wants.{reference_at, schema_at, schema_uri}
use Rattle.ref_draft.specs.Keywords.{id_keyword}
use Rattle.ref_findings.specs.Places.{nearest_of, nearest_base, is_refused, is_faulty}
use Rattle.ref_findings.specs.Bearers.{Site, is_root}
use Rattle.ref_findings.specs.Findings.{Known, Finding, uri_problem, by_base, value_problem, dynamic_problem, schema_problem, finding_at, source_findings, identifier_findings, reference_findings, dynamic_findings, schema_findings, anchor_finding, anchor_findings, findings_at}
use Rattle.ref_findings.specs.declared.place.Place as rust
use Rattle.ref_findings.specs.inner.Plain.{IsPlain, HasNoDynamic}
use Rattle.ref_index.specs.Visit.{place_with}
use Rattle.ref_findings.specs.inner.Seen.{place_of}

pub none_of : {X : Type 0} (o : Option X) → is_some o ≡ false → o ≡ None
none_of None is = refl
none_of (Some x) is = cc

pub place_is : (p : rust.Place) (at : List Part) (value : Data) (draft : Draft) (outer : List ℕ) (path : List Part) (base : List ℕ) (child : Walked) → place_of p ≡ place_with at value draft outer
    → at ≡ path ++ child.path → value ≡ child.value → draft ≡ child.draft → outer ≡ base → place_of p ≡ child_place path base child
place_is p at value draft outer path base child is same_path same_value same_draft same_base =
    is ∙ ap (λ q. place_with q value draft outer) same_path ∙ ap (λ d. place_with (path ++ child.path) d draft outer) same_value
    ∙ ap (λ d. place_with (path ++ child.path) child.value d outer) same_draft ∙ ap (place_with (path ++ child.path) child.value child.draft) same_base

-- a place without a text that findings are about isn't faulty
pub plain_sound : (path : List Part) (value : Data) (draft : Draft) (outer : List ℕ) → IsPlain draft value → is_faulty (place_with path value draft outer) ≡ false
plain_sound path value draft outer plain =
    ap (λ id. is_refused (Some (base_within outer id)) || (is_refused (reference_at (nearest_of outer (base_within outer id)) value) || is_refused (schema_at value))) plain.2
    ∙ ap (λ v. is_refused (option_map (target outer) (option_and_then as_str v)) || is_refused (schema_at value)) (none_of (get (codes "$ref") value) plain.0) ∙ ap (λ text. is_refused (option_and_then schema_uri text)) plain.1

none_after : (first a b c d e : List Finding) → a ≡ [] → b ≡ [] → c ≡ [] → d ≡ [] → e ≡ [] → first ++ (a ++ (b ++ (c ++ (d ++ e)))) ≡ first
none_after first a b c d e no_a no_b no_c no_d no_e = rw (no_a, no_b, no_c, no_d, no_e) (append-nil first)

-- a place below the root doesn't have the URI of its source
pub below_root : (k : Known) (number : ℕ) (s : Site) → is_root s.1 ≡ false → source_findings k number s ≡ []
below_root k number s below =
    ap (λ b. finding_at s None (option_and_then (uri_problem k number) (if b && not (option_map_or (λ own. bytes_eq own s.1.outer) (own_uri s.1) false) then Some s.1.outer else None))) below

-- a place without a dynamic reference
no_dynamic : (k : Known) (source : ℕ) (path : List Part) (value : Data) (draft : Draft) (outer : List ℕ) → HasNoDynamic value → dynamic_findings k (source, place_with path value draft outer) ≡ []
no_dynamic k source path value Draft4 outer none = refl
no_dynamic k source path value Draft6 outer none = refl
no_dynamic k source path value Draft7 outer none = refl
no_dynamic k source path value Draft201909 outer none =
    let s : Site = (source, place_with path value Draft201909 outer) in
    ap (λ v. finding_at s (Some (codes "$recursiveRef")) (option_and_then (dynamic_problem Draft201909 k s) v)) (none_of (get (codes "$recursiveRef") value) none.1)
no_dynamic k source path value Draft202012 outer none =
    let s : Site = (source, place_with path value Draft202012 outer) in
    ap (λ v. finding_at s (Some (codes "$dynamicRef")) (option_and_then (dynamic_problem Draft202012 k s) v)) (none_of (get (codes "$dynamicRef") value) none.0)
no_dynamic k source path value Unknown outer none =
    let s : Site = (source, place_with path value Unknown outer) in
    ap (λ v. finding_at s (Some (codes "$dynamicRef")) (option_and_then (dynamic_problem Unknown k s) v)) (none_of (get (codes "$dynamicRef") value) none.0)

-- at a place without a text that findings are about, at most the URI of its source is wrong
pub plain_findings : (k : Known) (number source : ℕ) (path : List Part) (value : Data) (draft : Draft) (outer : List ℕ) → IsPlain draft value
    → findings_at k number (source, place_with path value draft outer) ≡ source_findings k number (source, place_with path value draft outer)
plain_findings k number source path value draft outer plain =
    let p = place_with path value draft outer in
    let s : Site = (source, p) in
    none_after (source_findings k number s) (identifier_findings k number s) (reference_findings k s) (dynamic_findings k s) (schema_findings k s) (anchor_findings k number s)
    (ap (λ id. finding_at s (Some (id_keyword draft)) (option_and_then (λ i. by_base k number p.base) id)) plain.2)
    (ap (λ v. finding_at s (Some (codes "$ref")) (option_and_then (value_problem k s) v)) (none_of (get (codes "$ref") value) plain.0))
    (no_dynamic k source path value draft outer plain.4)
    (ap (λ text. finding_at s (Some (codes "$schema")) (option_and_then (schema_problem k) text)) plain.1)
    (ap (flat_map (anchor_finding k number s)) plain.3)
