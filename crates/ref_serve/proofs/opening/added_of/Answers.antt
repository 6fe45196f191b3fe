use Rattle.std.proofs.Common.{◌≡◌, Err, refl, sym, subst, rules}
use Rattle.ref_serve.specs.State.{OpenRegistry}
use Rattle.ref_serve.specs.inner.Mended.{world_above}
use Rattle.ref_serve.specs.inner.Openings.{opening_view, prepared_view, IsAddedOr}
use Rattle.ref_serve.proofs.OpeningReads.{added_from, added_none, unadded}
use Rattle.ref_serve.proofs.opening.added_of.Goals as goal

pub returns-in_err-prepared : goal.returns-in_err-prepared
returns-in_err-prepared c =
    let o = opening_view c.args.wanted in
    let layers : OpenRegistry = (world_above c.args.above, c.args.numbers.items) in
    let stop = c.in_err-prepared.field-0.0 in
    let same : c.from_residual.result ≡ Err stop = search rules in
    subst (IsAddedOr o layers) (sym same) (unadded o layers stop c.in_err-prepared.ensures)

pub returns-in_err-registry : goal.returns-in_err-registry
returns-in_err-registry c =
    let o = opening_view c.args.wanted in
    let layers : OpenRegistry = (world_above c.args.above, c.args.numbers.items) in
    let stop = c.in_err-registry.field-0.0 in
    let same : c.from_residual-in_err-registry.result ≡ Err stop = search rules in
    let p = prepared_view c.in_ok-prepared.prepared in
    subst (IsAddedOr o layers) (sym same) (added_none o layers p stop c.in_ok-prepared.ensures c.in_err-registry.ensures)

pub returns : goal.returns
returns c =
    let o = opening_view c.args.wanted in
    let layers : OpenRegistry = (world_above c.args.above, c.args.numbers.items) in
    let p = prepared_view c.in_ok-prepared.prepared in
    added_from o layers p (record { registry = c.in_ok-registry.registry; faults = c.in_ok-prepared.prepared.faults }) c.in_ok-prepared.ensures refl c.in_ok-registry.ensures
