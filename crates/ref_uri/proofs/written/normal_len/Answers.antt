use Rattle.std.proofs.Common.{arith}
use Rattle.ref_uri.proofs.NormalFront.{up_to_percent, up_to_next, triple_there}
use Rattle.ref_uri.proofs.written.normal_len.Goals as goal

pub triples-init : goal.triples-init
triples-init c = up_to_percent c.args.text.now c.first_from-at.result c.requires c.first_from-at.ensures.within (λ k. c.first_from-at.ensures.none k (omega arith)) c.first_from-at.ensures.found

pub bounds-text-at : goal.bounds-text-at
bounds-text-at c = let t = triple_there c.args.text.now c.triples.at c.triples.invariant c.triples-test.true in omega (arith, t.enough)

pub is_normal_triple-requires-clause-high : goal.is_normal_triple-requires-clause-high
is_normal_triple-requires-clause-high c = (triple_there c.args.text.now c.triples.at c.triples.invariant c.triples-test.true).high

pub is_normal_triple-requires-clause-low : goal.is_normal_triple-requires-clause-low
is_normal_triple-requires-clause-low c = (triple_there c.args.text.now c.triples.at c.triples.invariant c.triples-test.true).low

pub first_from-at-requires-in-triples : goal.first_from-at-requires-in-triples
first_from-at-requires-in-triples c = (triple_there c.args.text.now c.triples.at c.triples.invariant c.triples-test.true).enough

pub triples-preserved : goal.triples-preserved
triples-preserved c =
    up_to_next c.args.text.now c.triples.at c.first_from-at-in-triples.result c.triples.invariant c.triples-test.true (c.is_normal_triple.ensures c.if-is_normal_triple.true) c.first_from-at-in-triples.ensures.from c.first_from-at-in-triples.ensures.within
    c.first_from-at-in-triples.ensures.none c.first_from-at-in-triples.ensures.found
