use Rattle.std.proofs.Common.{◌≡◌, ◌∷◌, ◌++◌, [], length, map, ap, subst, vec_len, arith}
use Rattle.std.proofs.lemmas.List.{length-map, length_push, nil_from_length}
use Rattle.ref_graphs.specs.Views.{step_of}
use Rattle.ref_graphs.specs.inner.Searching.{from_of, AreChains, IsSearch}
use Rattle.ref_graphs.proofs.Searching.{search_at, search_end, waited}
use Rattle.ref_graphs.proofs.reaching.reached.Goals as goal

pub loop-place-init : goal.loop-place-init
loop-place-init c = c.in_ok-search.ensures (map step_of c.args.steps.now)

pub pass-requires : goal.pass-requires
pass-requires c =
    let l = c.loop-place.search in
    let count = c.args.count in
    let xs = c.args.steps.now in
    let S = map step_of xs in
    let place = c.in-Some.place in
    let rest = c.pop.new.self.items in
    let same : count ≡ vec_len l.flags = omega (arith, c.loop-place.invariant.places) in
    let popped : l.waiting.items ≡ rest ++ place ∷ [] = c.in-Some.ensures.items in
    let search = subst (λ n. IsSearch count S place n l.flags.items rest) (length-map xs step_of) (search_at count S 0 l.flags.items l.waiting.items rest place c.loop-place.invariant popped) in
    record {
      chains = subst (λ n. AreChains (from_of S) n (length xs) c.in_ok-chains.chains.last.items c.in_ok-chains.chains.before.items) same c.in_ok-chains.ensures;
      search = subst (λ n. IsSearch n S place (length xs) l.flags.items rest) same search;
      flag = waited count S 0 0 l.flags.items l.waiting.items rest place c.loop-place.invariant popped;
    }

pub loop-place-preserved : goal.loop-place-preserved
loop-place-preserved c =
    let new = c.pass.new.self in
    let same : vec_len c.loop-place.search.flags ≡ c.args.count = omega (arith, c.loop-place.invariant.places) in
    subst (λ n. IsSearch n (map step_of c.args.steps.now) 0 0 new.flags.items new.waiting.items) same c.in_ok-pass.ensures.search

pub loop-place-smaller : goal.loop-place-smaller
loop-place-smaller c =
    let l = c.loop-place.search in
    let rest = c.pop.new.self.items in
    let popped : l.waiting.items ≡ rest ++ c.in-Some.place ∷ [] = c.in-Some.ensures.items in
    omega (arith, c.in_ok-pass.ensures.left, ap length popped, length_push rest c.in-Some.place)

pub returns-clause-places : goal.returns-clause-places
returns-clause-places c = omega (arith, c.loop-place.invariant.places)

pub returns-clause-value : goal.returns-clause-value
returns-clause-value c = λ place within.
    let l = c.loop-place.search in
    let none : length l.waiting.items ≡ 0 = omega (arith, c.in_default.ensures.cases.0) in
    search_end c.args.count (map step_of c.args.steps.now) place l.flags.items l.waiting.items c.loop-place.invariant (nil_from_length l.waiting.items none) within
