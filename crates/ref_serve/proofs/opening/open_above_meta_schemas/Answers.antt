use Rattle.std.proofs.Common.{◌≡◌, ◌∙◌, ◌∷◌, [], Some, Err, map, option_map, ap, rules, sym, subst}
use Rattle.ref_calls.specs.Given.{given_of}
use Rattle.ref_serve.specs.Opening.{AboveMetaSchemas, IsOpenedBy, uri_given}
use Rattle.ref_serve.specs.inner.Openings.{opening_view, GivesOpened}
use Rattle.ref_serve.proofs.OpeningReads.{no_meta, meta_layers, opened_neither, opened_both}
use Rattle.ref_serve.proofs.opening.open_above_meta_schemas.Goals as goal

pub returns-in_err-parent : goal.returns-in_err-parent
returns-in_err-parent c state number =
    let o = opening_view c.args.wanted in
    let documents = map given_of c.args.documents.items in
    let same : c.from_residual-in_err-parent.result ≡ Err c.in_err-parent.field-0.0 = search rules in
    subst (GivesOpened (IsOpenedBy (AboveMetaSchemas documents) o state) state) (sym same) (no_meta state o documents c.in_err-parent.field-0.0 c.in_err-parent.ensures)

pub returns-in_err-added : goal.returns-in_err-added
returns-in_err-added c state number =
    let o = opening_view c.args.wanted in
    let documents = map given_of c.args.documents.items in
    let parent = c.in_ok-parent.parent in
    let world = c.in_ok-registry.registry.now in
    let numbers = c.in_ok-numbers.numbers.items in
    let same : c.from_residual-in_err-added.result ≡ Err c.in_err-added.field-0.0 = search rules in
    subst (GivesOpened (IsOpenedBy (AboveMetaSchemas documents) o state) state) (sym same)
    (opened_neither state o documents parent (world, numbers) c.in_err-added.field-0.0 c.in_ok-parent.ensures
    (meta_layers state c.args.number parent world numbers number c.in_ok-parent.ensures.1 c.in_ok-registry.ensures.value c.in_ok-numbers.ensures) c.in_err-added.ensures)

pub returns : goal.returns
returns c state number =
    let o = opening_view c.args.wanted in
    let documents = map given_of c.args.documents.items in
    let parent = c.in_ok-parent.parent in
    let world = c.in_ok-registry.registry.now in
    let numbers = c.in_ok-numbers.numbers.items in
    let added = c.in_ok-added.added in
    let opened = c.in_ok-open_both.field-0 in
    let own : c.as_slice.result.now ≡ c.args.wanted.documents.items = search rules in
    let given : c.as_slice-2.result.now ≡ c.in_ok-given.given.items = search rules in
    let uris = map (option_map (λ u. u)) c.as_slice-2.result.now in
    let are : uris ≡ map uri_given (map (λ d. d.0) o.documents) =
    ap (map (option_map (λ u. u))) given ∙ c.in_ok-given.ensures ∙ ap (λ ds. map uri_given (map (λ d. d.0) (map given_of ds))) own in
    let both : opened.registries.items ≡ Some (parent, []) ∷ Some (added.registry, []) ∷ [] = c.in_ok-open_both.ensures.both ∙ ap (λ p. Some (p, []) ∷ Some (added.registry, []) ∷ []) c.lend.ensures.same in
    opened_both state o documents parent (world, numbers) c.args.number added opened uris c.in_ok-parent.ensures
    (meta_layers state c.args.number parent world numbers number c.in_ok-parent.ensures.1 c.in_ok-registry.ensures.value c.in_ok-numbers.ensures) c.in_ok-added.ensures number are c.in_ok-open_both.ensures.result both
