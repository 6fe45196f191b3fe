use Rattle.std.proofs.Common.{◌≡◌, List, None, Some, option_map, map, flat_map, ap, sym, ◌∙◌, rules}
use Rattle.ref_bundle.specs.Needed.{Reference}
use Rattle.ref_bundle.specs.Bundle.{Problem, reference_problems}
use Rattle.ref_bundle.specs.Saying.{further_of, problem_said}
use Rattle.ref_bundle.specs.inner.Seen.{layer_in, numbered_part, seen_reference}
use Rattle.ref_bundle.specs.inner.First.{first}
use Rattle.ref_bundle.proofs.Firsts.{found_here, none_more}
use Rattle.ref_bundle.proofs.referring.reference_problems.Goals as goal

pub returns-in-Some : goal.returns-in-Some
returns-in-Some c =
    let l = c.loop-reference in
    let items = c.deref-reference-items.result.now in
    let f : Reference → List Problem = reference_problems (layer_in c.args.among.now.owns.now) (further_of c.args.among.now.further.now) c.args.among.now.bearers.now.registry.now (numbered_part c.args.among.now.top.now) in
    let said : option_map problem_said c.in_ok-problem.field-0 ≡ Some (problem_said c.in-Some.problem) = search rules in
    record {
      value = found_here f seen_reference items l.reference-index c.reference-item.result (problem_said c.in-Some.problem) c.loop-reference-test.true c.reference-item.is l.invariant (sym said ∙ c.in_ok-problem.ensures)
          ∙ ap (λ rs. first (flat_map f rs)) (ap (map seen_reference) c.deref-reference-items.ensures.value ∙ c.in_ok-references.ensures.value);
    }

pub loop-reference-preserved : goal.loop-reference-preserved
loop-reference-preserved c =
    let l = c.loop-reference in
    let f : Reference → List Problem = reference_problems (layer_in c.args.among.now.owns.now) (further_of c.args.among.now.further.now) c.args.among.now.bearers.now.registry.now (numbered_part c.args.among.now.top.now) in
    let said : option_map problem_said c.in_ok-problem.field-0 ≡ None = search rules in
    none_more f seen_reference c.deref-reference-items.result.now l.reference-index c.reference-item.result c.loop-reference-test.true c.reference-item.is l.invariant (sym said ∙ c.in_ok-problem.ensures)
