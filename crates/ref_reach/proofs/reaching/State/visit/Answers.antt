use Rattle.std.proofs.Common.{◌≡◌, ◌+◌, Some, map, filter, not, length, slice_get, subst, arith, rules}
use Rattle.ref_reach.specs.Views.{place_of}
use Rattle.ref_reach.specs.inner.Following.{around_of, with_new}
use Rattle.ref_reach.proofs.Growing.{got, lent_item, is_within}
use Rattle.ref_reach.proofs.Following.{visited}
use Rattle.ref_reach.proofs.reaching.State.visit.Goals as goal

pub returns : goal.returns
returns c =
    let a = around_of c.args.around in
    let old = c.args.self.now.reached.places.items in
    let q = place_of c.in-Some.place.now in
    let p = place_of c.in_ok-place.place in
    let there : slice_get old c.args.number ≡ Some c.in-Some.place.now = search (rules, lent_item c.deref.result.now c.args.number c.in-Some.place c.in-Some.ensures.lookup) in
    let v = c.args.self.now.reached.places in
    let within = is_within old c.args.number c.in-Some.place.now there in
    let number : c.saturating_add-number.result ≡ length a.own + c.args.number = omega (arith, c.saturating_add-number.ensures, c.own.ensures.value, c.own.ensures.small, within, v.ok.0, v.ok.1, v.small) in
    λ ps list count says.
    let next_to = c.in_ok-add_below.ensures ps list count says in
    let all = c.in_ok-follow.ensures (with_new ps (filter (λ x. not (a.is_own x)) (map place_of c.in_ok-below.below.items))) list count next_to in (
      q,
      subst (λ l. slice_get l c.args.number ≡ Some q) says.seen.listed (got place_of old c.args.number c.in-Some.place.now there),
      visited a c.follow.new.self p q (map place_of c.in_ok-below.below.items) c.saturating_add-number.result (length a.own + c.args.number) ps list count c.in_ok-place.ensures.value c.in_ok-below.ensures.value number all,
    )
