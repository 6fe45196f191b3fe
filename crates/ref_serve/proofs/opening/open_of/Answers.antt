use Rattle.std.proofs.Common.{Ok, option_map, unwrap_or, [], refl, sym, subst}
use Rattle.ref_registries.specs.Worlds.{IsWorld}
use Rattle.ref_registries.proofs.Given.{pending_seen}
use Rattle.ref_calls.specs.Given.{given_of}
use Rattle.ref_serve.specs.Opening.{given_of_opening}
use Rattle.ref_serve.specs.inner.Openings.{opening_view, IsWorldOr}
use Rattle.ref_serve.proofs.OpeningReads.{world_stopped}
use Rattle.ref_serve.proofs.opening.open_of.Goals as goal

pub returns-in-Ok : goal.returns-in-Ok
returns-in-Ok c =
    let o = opening_view c.args.wanted in
    let numbers = c.args.numbers.items in
    let world = unwrap_or (option_map (λ r. r.now) c.args.above) [] in
    subst (λ added. IsWorldOr o (world, numbers) (Ok added)) (sym c.new.ensures.value)
    (subst (λ p. IsWorld (given_of_opening o world) p (Ok c.in-Ok.registry)) (pending_seen given_of c.args.wanted.documents.items) c.in-Ok.ensures.ok, refl)

pub returns-in-Err : goal.returns-in-Err
returns-in-Err c =
    let o = opening_view c.args.wanted in
    let world = unwrap_or (option_map (λ r. r.now) c.args.above) [] in
    world_stopped o (world, c.args.numbers.items) _ c.in-Err.error c.fault_error.result (pending_seen given_of c.args.wanted.documents.items) c.in-Err.ensures.fault c.fault_error.ensures
