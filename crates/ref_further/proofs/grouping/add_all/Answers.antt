use Rattle.std.proofs.Common.{◌<◌, ◌++◌, map, flat_map, take, refl, ap, sym, subst, ◌∙◌, append_assoc, append-nil, arith}
use Rattle.ref_reach.specs.Views.{place_of}
use Rattle.ref_bundle.specs.Needed.{further_in}
use Rattle.ref_bundle.specs.Saying.{further_of}
use Rattle.ref_bundle.proofs.Lists.{taken_all, joined_more}
use Rattle.ref_further.specs.Further.{seen_in}
use Rattle.ref_further.proofs.grouping.add_all.Goals as goal

pub loop-place-init : goal.loop-place-init
loop-place-init c = (refl, λ n less. sym (append-nil (further_in (further_of c.args.groups.now.items) n)))

pub loop-place-preserved : goal.loop-place-preserved
loop-place-preserved c =
    let l = c.loop-place in
    let p = c.place-item.result in (
      c.in_ok-add.ensures.long ∙ l.invariant.0,
      λ n less.
          c.in_ok-add.ensures.added n (subst (λ k. n < k) (sym l.invariant.0) less)
          ∙ ap (λ ss. ss ++ seen_in n (place_of p)) (l.invariant.1 n less)
          ∙ append_assoc (further_in (further_of c.args.groups.now.items) n) (flat_map (seen_in n) (map place_of (take l.place-index c.args.places.now))) (seen_in n (place_of p))
          ∙ ap (λ ss. further_in (further_of c.args.groups.now.items) n ++ ss) (sym (joined_more (seen_in n) place_of c.args.places.now l.place-index p c.loop-place-test.true c.place-item.is)),
    )

pub returns : goal.returns
returns c =
    let l = c.loop-place in
    record {
      long = l.invariant.0;
      added = λ n less.
          l.invariant.1 n less ∙ ap (λ ps. further_in (further_of c.args.groups.now.items) n ++ flat_map (seen_in n) ps) (taken_all place_of c.args.places.now l.place-index (omega arith));
    }
