use Rattle.std.proofs.Common.{◌≡◌, ◌<◌, ◌++◌, [], map, flat_map, length, ap, sym, subst, ◌∙◌}
use Rattle.ref_reach.specs.Views.{place_of}
use Rattle.ref_reach.specs.Knowing.{known_of}
use Rattle.ref_bundle.specs.Saying.{seen_spot}
use Rattle.ref_bundle.proofs.Running.{lists_length}
use Rattle.ref_further.specs.Further.{seen_in}
use Rattle.ref_further.proofs.Groups.{three_lists}
use Rattle.ref_further.proofs.further.grouped.Goals as goal

pub returns : goal.returns
returns c =
    let known = known_of c.args.documents.now in
    let own = known.own in
    let described = map place_of c.args.described.now in
    let led = map place_of c.args.led.now in
    let first = c.in_ok-add_all.ensures in
    let second = c.in_ok-add_all-2.ensures in
    let third = c.in_ok-add_all-3.ensures in
    let long : length c.in_ok-groups.groups.items ≡ length known.uris = c.in_ok-groups.ensures.long ∙ c.len.ensures.value in
    record {
      no_more = lists_length (λ spots. map seen_spot spots.items) c.add_all-3.new.groups.items ∙ third.long ∙ second.long ∙ first.long ∙ long;
      all = λ n less.
          let one = subst (λ k. n < k) (sym long) less in
          let two = subst (λ k. n < k) (sym first.long) one in
          let three = subst (λ k. n < k) (sym second.long) two in
          third.added n three
          ∙ ap (λ l. l ++ flat_map (seen_in n) led)
          (second.added n two
          ∙ ap (λ l. l ++ flat_map (seen_in n) described)
          (first.added n one ∙ ap (λ l. l ++ flat_map (seen_in n) (map place_of c.own.result.now)) (c.in_ok-groups.ensures.none n) ∙ ap (λ ps. [] ++ flat_map (seen_in n) ps) c.own.ensures.value))
          ∙ three_lists n own described led;
    }
