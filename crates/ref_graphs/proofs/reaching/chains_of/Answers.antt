use Rattle.std.proofs.Common.{rules, ◌≡◌, ◌∙◌, ◌++◌, ◌∷◌, [], None, get_or, length, map, ap, subst, arith}
use Rattle.ref_graphs.specs.declared.circles.Step as rust
use Rattle.ref_graphs.specs.Views.{step_of}
use Rattle.ref_graphs.specs.inner.Searching.{from_of, AreChains}
use Rattle.ref_graphs.proofs.Searching.{chains_none, chains_more, from_at}
use Rattle.ref_graphs.proofs.reaching.chains_of.Goals as goal

pub loop-number-init : goal.loop-number-init
loop-number-init c =
    chains_none (from_of (map step_of c.args.steps.now)) c.args.count c.in_ok-last.last.items c.in_ok-before.before.items (c.in_ok-last.ensures.items_if_clones_equal (λ y h. search rules)) c.in_ok-before.ensures.items

pub loop-number-preserved : goal.loop-number-preserved
loop-number-preserved c =
    let l = c.loop-number in
    let xs = c.args.steps.now in
    let d : rust.Step = record { from = 0; to = 0 } in
    chains_more (from_of (map step_of xs)) c.args.count l.number (get_or xs l.number d).from l.last.items l.before.items c.put.new.numbers.items c.push.new.self.items l.invariant
    (from_at xs l.number d c.loop-number-test.true) c.put.ensures
    (c.in_ok-push.ensures.items ∙ ap (λ o. l.before.items ++ o ∷ []) (c.number_at.ensures ∙ ap (λ ns. get_or ns (get_or xs l.number d).from None) c.as_slice.ensures.value))

pub returns : goal.returns
returns c =
    let l = c.loop-number in
    let all : l.number ≡ length c.args.steps.now = omega arith in
    subst (λ n. AreChains (from_of (map step_of c.args.steps.now)) c.args.count n l.last.items l.before.items) all l.invariant
