use Rattle.std.proofs.Common.{◌≡◌, Ok, Err, length, map, rules, sym, ap, ◌∙◌, subst}
use Rattle.serde_json.specs.View.{view}
use Rattle.ref_calls.specs.Given.{given_of}
use Rattle.ref_serve.specs.Answering.{IsOpened}
use Rattle.ref_serve.specs.Opening.{AboveLayers, AboveMetaSchemas}
use Rattle.ref_serve.specs.inner.Openings.{layers_at, parent_view, opening_view, GivesOpened}
use Rattle.ref_serve.proofs.OpeningReads.{gives_asked, unread}
use Rattle.ref_serve.proofs.opening.open.Goals as goal

pub returns-in_err-parent-clause-opened : goal.returns-in_err-parent-clause-opened
returns-in_err-parent-clause-opened c =
    let state = c.args.state.now in
    let d = view c.args.tree in
    let same : c.from_residual.result ≡ Err c.in_err-parent.field-0.0 = search rules in
    subst (GivesOpened (IsOpened state d) state) (sym same) (unread state d c.in_err-parent.field-0.0 c.in_err-parent.ensures)

pub returns-in-Layers-clause-opened : goal.returns-in-Layers-clause-opened
returns-in-Layers-clause-opened c =
    let state = c.args.state.now in
    let wanted = opening_view c.in_ok-parent.wanted in
    gives_asked state (view c.args.tree) (AboveLayers (layers_at state c.in-Layers.numbers.items)) wanted c.open_above.result
    (c.in_ok-parent.ensures ∙ ap (λ p. Ok (parent_view state p, wanted)) c.in-Layers.is) c.open_above.ensures.opened

pub returns-in-MetaSchemas-clause-opened : goal.returns-in-MetaSchemas-clause-opened
returns-in-MetaSchemas-clause-opened c =
    let state = c.args.state.now in
    let wanted = opening_view c.in_ok-parent.wanted in
    let number : c.len.result ≡ length state = search rules in
    gives_asked state (view c.args.tree) (AboveMetaSchemas (map given_of c.in-MetaSchemas.documents.items)) wanted c.open_above_meta_schemas.result
    (c.in_ok-parent.ensures ∙ ap (λ p. Ok (parent_view state p, wanted)) c.in-MetaSchemas.is) (c.open_above_meta_schemas.ensures state number)
