use Rattle.std.proofs.Common.{◌≡◌, ◌∙◌, ◌<◌, None, get_or, length, map, ap, sym, subst, vec_len, arith, rules}
use Rattle.std.proofs.lemmas.List.{length-map}
use Rattle.ref_graphs.specs.declared.circles.Step as rust
use Rattle.ref_graphs.specs.Views.{step_of}
use Rattle.ref_graphs.specs.inner.Searching.{from_of, after, IsSearch, left}
use Rattle.ref_graphs.proofs.Searching.{flag_within, reached_by, step_at, from_at, search_fewer, search_more, search_done, left_same, chain_first, chain_on, chain_begins, chain_falls}
use Rattle.ref_graphs.proofs.reaching.Search.pass.Goals as goal

pub loop-next-init : goal.loop-next-init
loop-next-init c =
    let S = map step_of c.args.steps.now in
    let is = c.number_at-next.ensures ∙ ap (λ ns. get_or ns c.args.place None) c.as_slice.ensures.value in
    record {
      search = search_fewer (vec_len c.args.self.now.flags) S c.args.place (length c.args.steps.now) (after c.number_at-next.result) c.args.self.now.flags.items c.args.self.now.waiting.items c.requires.search
          (chain_first S (vec_len c.args.self.now.flags) (length c.args.steps.now) c.args.chains.now.last.items c.args.chains.now.before.items c.args.place c.number_at-next.result c.requires.chains
          (length-map c.args.steps.now step_of) is);
      begins = λ n some. c.requires.chains.begins c.args.place n (sym is ∙ some);
      left = omega arith;
    }

pub bounds-steps-number : goal.bounds-steps-number
bounds-steps-number c = (c.loop-next.invariant.begins c.in-Some.number c.in-Some.is).0

pub offset_bounds-steps-number : goal.offset_bounds-steps-number
offset_bounds-steps-number c =
    let within : c.in-Some.number < length c.args.steps.now = (c.loop-next.invariant.begins c.in-Some.number c.in-Some.is).0 in
    search rules

pub loop-next-preserved : goal.loop-next-preserved
loop-next-preserved c =
    let l = c.loop-next in
    let xs = c.args.steps.now in
    let S = map step_of xs in
    let n = c.in-Some.number in
    let d : rust.Step = record { from = 0; to = 0 } in
    let s = get_or xs n d in
    let count = vec_len c.args.self.now.flags in
    let place = c.args.place in
    let new = c.reach.new.self in
    let next = c.number_at-next-in-Some.result in
    let here = l.invariant.begins n c.in-Some.is in
    let is_s = step_at xs n d here.0 in
    let from_s : s.from ≡ place = sym (from_at xs n d here.0) ∙ here.1 in
    let within : place < count = omega (arith, flag_within c.args.self.now.flags.items place c.requires.flag, c.requires.search.places) in
    let is_next : next ≡ get_or c.args.chains.now.before.items n None = c.number_at-next-in-Some.ensures ∙ ap (λ ns. get_or ns n None) c.as_slice-in-Some.ensures.value in
    let same : left new.flags.items new.waiting.items ≡ left l.self.flags.items l.self.waiting.items =
    left_same l.self.flags.items new.flags.items l.self.waiting.items new.waiting.items s.to c.in_ok-reach.ensures.flags c.in_ok-reach.ensures.waiting in
    record {
      search = search_more count S place (after l.next) (after next) l.self.flags.items new.flags.items l.self.waiting.items new.waiting.items s.to l.invariant.search
          (λ ends. reached_by count S n place (step_of s) is_s from_s within ends (c.requires.search.are_reached place c.requires.flag))
          (chain_on S count (length xs) c.args.chains.now.last.items c.args.chains.now.before.items place n (step_of s) l.next next c.requires.chains c.in-Some.is is_s here.0 here.1 is_next)
          c.in_ok-reach.ensures.flags c.in_ok-reach.ensures.waiting;
      begins = chain_begins S count (length xs) c.args.chains.now.last.items c.args.chains.now.before.items place n next c.requires.chains here.0 here.1 is_next;
      left = omega (arith, same, l.invariant.left);
    }

pub loop-next-smaller : goal.loop-next-smaller
loop-next-smaller c =
    chain_falls (from_of (map step_of c.args.steps.now)) (vec_len c.args.self.now.flags) (length c.args.steps.now) c.args.chains.now.last.items c.args.chains.now.before.items c.in-Some.number c.loop-next.next c.number_at-next-in-Some.result c.requires.chains c.in-Some.is
    (c.number_at-next-in-Some.ensures ∙ ap (λ ns. get_or ns c.in-Some.number None) c.as_slice-in-Some.ensures.value)

pub returns-clause-search : goal.returns-clause-search
returns-clause-search c =
    let l = c.loop-next in
    let S = map step_of c.args.steps.now in
    let count = vec_len c.args.self.now.flags in
    search_done count S c.args.place l.self.flags.items l.self.waiting.items
    (subst (λ o. IsSearch count S c.args.place (after o) l.self.flags.items l.self.waiting.items) c.in_default.is l.invariant.search)

pub returns-clause-left : goal.returns-clause-left
returns-clause-left c = c.loop-next.invariant.left
