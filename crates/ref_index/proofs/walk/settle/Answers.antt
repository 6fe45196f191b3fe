use Rattle.std.proofs.Common.{◌≡◌, refl, ap, ◌∙◌, option_map, Ok, rules, subst}
use Rattle.serde_json.specs.Data.{Data}
use Rattle.serde_json.specs.View.{view}
use Rattle.ref_draft.specs.Schema.{identifier}
use Rattle.ref_draft.specs.Views.{id_of}
use Rattle.ref_uri.specs.Errors.{IsFaultOf}
use Rattle.ref_definitions.specs.Places.{base_within}
use Rattle.ref_definitions.specs.Cached.{pairs_of_identifier, identifier_pairs_at, pairs_of_value}
use Rattle.ref_definitions.specs.Wants.{Reference, MetaSchema, wants_of_text, reference_at, refusals_of, schema_at}
use Rattle.ref_index.specs.inner.Found.{Holds, with_wants, with_identifiers, with_references}
use Rattle.ref_index.specs.Visit.{place_of}
use Rattle.ref_index.specs.Faults.{IsFirstFault}
use Rattle.ref_index.specs.inner.Visits.{with_meanings}
use Rattle.ref_index.proofs.Visiting.{first_of_base, first_of_reference, wants_where, references_where, holds_same}
use Rattle.ref_index.proofs.walk.settle.Goals as goal

pub returns-in_err-base-clause-faults : goal.returns-in_err-base-clause-faults
returns-in_err-base-clause-faults c =
    let p = place_of c.args.place.now in
    let outer = c.args.place.now.outer.value in
    let same = c.id-id.ensures.value ∙ ap id_of c.new.ensures.value ∙ ap (identifier p.draft) c.get-value.ensures.value in
    let fault = first_of_base p.base p.value c.in_err-base.field-0.0 (subst (λ id. IsFaultOf (base_within outer id) c.in_err-base.field-0.0) same c.in_err-base.ensures.value) in
    search rules

pub returns-in_err-add_reference-clause-faults : goal.returns-in_err-add_reference-clause-faults
returns-in_err-add_reference-clause-faults c =
    let p = place_of c.args.place.now in
    let based : p.base ≡ Ok c.in_ok-base.base.value = search rules in
    let base = c.in_ok-base.base.value in
    let first = subst (λ d. IsFirstFault (refusals_of (reference_at base d)) c.in_err-add_reference.field-0.0) c.get-value.ensures.value c.in_err-add_reference.ensures.faults in
    let fault = first_of_reference p.base base p.value c.in_err-add_reference.field-0.0 based first in
    search rules

pub returns-clause-added : goal.returns-clause-added
returns-clause-added c = λ layer held holds is_at_path.
    let p = place_of c.args.place.now in
    let under = option_map (λ u. u.now.value) c.args.under in
    let base = c.in_ok-base.base.value in
    let value = view c.get-value.result.now in
    let based : p.base ≡ Ok base = search rules in
    let outer = c.args.place.now.outer.value in
    let same = c.id-id.ensures.value ∙ ap id_of c.new.ensures.value ∙ ap (identifier p.draft) c.get-value.ensures.value in
    let identified = with_identifiers held (identifier_pairs_at p) in
    let kept = subst (λ id. Holds layer c.add_base.new.found (with_identifiers held (pairs_of_identifier outer id))) same (c.in_ok-add_base.ensures layer held holds c.in_ok-base.ensures.value) in
    let meant = with_meanings c.args.number under p identified in
    let placed = c.in_ok-add_place.ensures layer identified kept is_at_path same based in
    let referring = λ (d : Data). with_wants (with_references meant (pairs_of_value base d)) (wants_of_text Reference (reference_at base d)) in
    let referred = c.in_ok-add_reference.ensures.added layer meant placed in
    let all = c.in_ok-add_meta_schema.ensures.added layer (referring value) referred in
    holds_same layer c.add_meta_schema.new.found _ _ refl refl (wants_where p.base base p.value held.wants based) refl (references_where p.base base p.value held.references based)
    (subst (λ d. Holds layer c.add_meta_schema.new.found (with_wants (referring d) (wants_of_text MetaSchema (schema_at d)))) c.get-value.ensures.value all)
