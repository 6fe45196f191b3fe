use Rattle.std.proofs.Common.{◌≡◌, map, Some, sym, subst, arith}
use Rattle.ref_resolver.specs.declared.located.NumberedName.{NumberedName}
use Rattle.ref_index.specs.Spots.{spot_of}
use Rattle.ref_resolver.specs.Locations.{name_spot_from}
use Rattle.ref_resolver.proofs.Spotting.{name_spot_next, name_spot_beyond}
use Rattle.ref_resolver.proofs.Locating.{named_next, named_beyond}
use Rattle.ref_resolver.proofs.located.named_above.Goals as goal

pub returns-in-Some : goal.returns-in-Some
returns-in-Some c = record {
  value = λ own. named_next (λ p. p.now) c.args.parents.now c.loop-number.number c.index-parents-number.result (omega arith) c.index-parents-number.is own c.args.uri.now c.args.name.now c.in-Some.found c.with_layer.result c.with_layer.ensures
      c.loop-number.invariant.1 c.in-Some.ensures.value;
  spot =
      let uri = c.args.uri.now in
      let name = c.args.name.now in
      let at = name_spot_next (λ p. p.now) c.args.parents.now c.loop-number.number c.index-parents-number.result (omega arith) c.index-parents-number.is uri name (spot_of c.in-Some.found.place.entry.now) c.loop-number.invariant.2
      c.in-Some.ensures.spot in
      subst (λ (f : NumberedName). name_spot_from 1 (map (λ p. p.now) c.args.parents.now) uri name ≡ Some (f.place.layer, spot_of f.place.place.entry.now)) (sym c.with_layer.ensures) at;
}

pub loop-number-preserved : goal.loop-number-preserved
loop-number-preserved c = (
  omega arith,
  named_beyond (λ p. p.now) c.args.parents.now c.loop-number.number c.index-parents-number.result (omega arith) c.index-parents-number.is c.args.uri.now c.args.name.now c.loop-number.invariant.1 c.in_default.ensures.value,
  name_spot_beyond (λ p. p.now) c.args.parents.now c.loop-number.number c.index-parents-number.result (omega arith) c.index-parents-number.is c.args.uri.now c.args.name.now c.loop-number.invariant.2 c.in_default.ensures.value,
)
