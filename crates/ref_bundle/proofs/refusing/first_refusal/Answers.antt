use Rattle.std.proofs.Common.{◌≡◌, [], None, Some, cond, option_map, map, sym, ◌∙◌, rules}
use Rattle.ref_bundle.specs.Bundle.{refusals_in}
use Rattle.ref_bundle.specs.Saying.{further_of, refusal_said}
use Rattle.ref_bundle.specs.inner.Reach.{is_marked}
use Rattle.ref_bundle.specs.inner.Seen.{layer_in, numbered_document, numbered_part}
use Rattle.ref_bundle.proofs.Firsts.{found_here, none_more}
use Rattle.ref_bundle.proofs.refusing.first_refusal.Goals as goal

pub returns-in-Some : goal.returns-in-Some
returns-in-Some c =
    let l = c.loop-own in
    let said : option_map refusal_said c.in_ok-refusal.field-0 ≡ Some (refusal_said c.in-Some.refusal) = search rules in
    record {
      value = found_here (λ e. cond (is_marked c.args.among.now.needed.now e.0) (refusals_in (layer_in c.args.among.now.owns.now) (further_of c.args.among.now.further.now) c.args.among.now.bearers.now.registry.now (numbered_part c.args.among.now.top.now) (map numbered_part c.args.among.now.parts.now) e) [])
          numbered_document c.args.among.now.owns.now l.own-index c.own-item.result (refusal_said c.in-Some.refusal) c.loop-own-test.true c.own-item.is l.invariant (sym said ∙ c.in_ok-refusal.ensures);
    }

pub loop-own-preserved : goal.loop-own-preserved
loop-own-preserved c =
    let l = c.loop-own in
    let said : option_map refusal_said c.in_ok-refusal.field-0 ≡ None = search rules in
    none_more (λ e. cond (is_marked c.args.among.now.needed.now e.0) (refusals_in (layer_in c.args.among.now.owns.now) (further_of c.args.among.now.further.now) c.args.among.now.bearers.now.registry.now (numbered_part c.args.among.now.top.now) (map numbered_part c.args.among.now.parts.now) e) [])
    numbered_document c.args.among.now.owns.now l.own-index c.own-item.result c.loop-own-test.true c.own-item.is l.invariant (sym said ∙ c.in_ok-refusal.ensures)
