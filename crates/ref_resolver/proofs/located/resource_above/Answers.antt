use Rattle.std.proofs.Common.{arith}
use Rattle.ref_index.specs.Spots.{spot_of}
use Rattle.ref_resolver.proofs.Spotting.{spot_next, spot_beyond}
use Rattle.ref_resolver.proofs.Locating.{meant_next, meant_beyond}
use Rattle.ref_resolver.proofs.located.resource_above.Goals as goal

pub returns-in-Some : goal.returns-in-Some
returns-in-Some c = record {
  value = λ own. meant_next (λ p. p.now) c.args.parents.now c.loop-number.number c.index-parents-number.result (omega arith) c.index-parents-number.is own c.args.uri.now c.in-Some.place c.loop-number.invariant.1 c.in-Some.ensures.value;
  spot = spot_next (λ p. p.now) c.args.parents.now c.loop-number.number c.index-parents-number.result (omega arith) c.index-parents-number.is c.args.uri.now (spot_of c.in-Some.place.entry.now) c.loop-number.invariant.2 c.in-Some.ensures.spot;
}

pub loop-number-preserved : goal.loop-number-preserved
loop-number-preserved c = (
  omega arith,
  meant_beyond (λ p. p.now) c.args.parents.now c.loop-number.number c.index-parents-number.result (omega arith) c.index-parents-number.is c.args.uri.now c.loop-number.invariant.1 c.in_default.ensures.value,
  spot_beyond (λ p. p.now) c.args.parents.now c.loop-number.number c.index-parents-number.result (omega arith) c.index-parents-number.is c.args.uri.now c.loop-number.invariant.2 c.in_default.ensures.value,
)
