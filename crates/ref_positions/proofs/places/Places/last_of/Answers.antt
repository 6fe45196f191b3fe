use Rattle.std.proofs.Common.{arith}
use Rattle.ref_positions.proofs.Counted.{begin, one_more, done}
use Rattle.ref_positions.proofs.places.Places.last_of.Goals as goal

pub loop-number-init : goal.loop-number-init
loop-number-init c = λ ps tree table. begin _ _ ps tree table

pub loop-number-preserved : goal.loop-number-preserved
loop-number-preserved c = λ ps tree table.
    let is = c.loop-number.invariant ps tree table in
    one_more _ _ _ ps c.loop-number.number c.above-above.result tree (omega arith) (omega (arith, is.long, table.0, c.len-number-end.ensures, c.args.found.ok.0)) c.settle.ensures c.above-above.ensures.above is

pub returns : goal.returns
returns c = record {
  last = λ ps tree table.
      let is = c.loop-number.invariant ps tree table in
      done _ _ ps c.loop-number.number (omega (arith, is.long, table.0, c.len-number-end.ensures, c.args.found.ok.0)) is;
}
