use Rattle.std.proofs.Common.{◌≡◌, ◌∙◌, Ok, Err, map, option_map, ap, rules, sym, subst}
use Rattle.ref_calls.specs.Given.{given_of}
use Rattle.ref_serve.specs.Opening.{AboveLayers, IsOpenedBy, uri_given}
use Rattle.ref_serve.specs.inner.Mended.{world_above}
use Rattle.ref_serve.specs.inner.Openings.{layers_at, opening_view, IsAddedOr, GivesOpened}
use Rattle.ref_serve.proofs.OpeningReads.{opened_none, opened_one}
use Rattle.ref_serve.proofs.opening.open_above.Goals as goal

pub returns-in_err-added-clause-opened : goal.returns-in_err-added-clause-opened
returns-in_err-added-clause-opened c =
    let state = c.args.state.now in
    let o = opening_view c.args.wanted in
    let numbers = c.args.numbers.items in
    let layers = layers_at state numbers in
    let same : c.from_residual-in_err-added.result ≡ Err c.in_err-added.field-0.0 = search rules in
    let lent : c.as_slice-2.result.now ≡ numbers = search rules in
    let world : world_above c.in_ok-above.above ≡ layers.0 = c.in_ok-above.ensures.registry ∙ ap (λ ns. (layers_at state ns).0) lent in
    subst (GivesOpened (IsOpenedBy (AboveLayers layers) o state) state) (sym same)
    (opened_none state o layers c.in_err-added.field-0.0 (subst (λ w. IsAddedOr o (w, numbers) (Err c.in_err-added.field-0.0)) world c.in_err-added.ensures))

pub returns-clause-opened : goal.returns-clause-opened
returns-clause-opened c =
    let state = c.args.state.now in
    let o = opening_view c.args.wanted in
    let numbers = c.args.numbers.items in
    let layers = layers_at state numbers in
    let added = c.in_ok-added.added in
    let lent : c.as_slice-2.result.now ≡ numbers = search rules in
    let world : world_above c.in_ok-above.above ≡ layers.0 = c.in_ok-above.ensures.registry ∙ ap (λ ns. (layers_at state ns).0) lent in
    let documents : c.as_slice.result.now ≡ c.args.wanted.documents.items = search rules in
    let given : c.as_slice-3.result.now ≡ c.in_ok-given.given.items = search rules in
    let uris = map (option_map (λ u. u)) c.as_slice-3.result.now in
    let are : uris ≡ map uri_given (map (λ d. d.0) o.documents) =
    ap (map (option_map (λ u. u))) given ∙ c.in_ok-given.ensures ∙ ap (λ ds. map uri_given (map (λ d. d.0) (map given_of ds))) documents in
    opened_one state o layers c.len-number.result added c.in_ok-open_one.field-0 uris (subst (λ w. IsAddedOr o (w, numbers) (Ok added)) world c.in_ok-added.ensures) (search rules) are
    c.in_ok-open_one.ensures.result c.in_ok-open_one.ensures.one
