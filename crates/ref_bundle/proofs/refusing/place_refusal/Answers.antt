use Rattle.std.proofs.Common.{◌≡◌, ◌++◌, None, Some, option_map, ap, sym, ◌∙◌, rules}
use Rattle.ref_bundle.specs.Bundle.{at_path, seen_problems}
use Rattle.ref_bundle.specs.Saying.{further_of, problem_said, refusal_said, seen_spot}
use Rattle.ref_bundle.specs.inner.Seen.{layer_in, numbered_part}
use Rattle.ref_bundle.specs.inner.First.{shared_seen}
use Rattle.ref_bundle.proofs.Firsts.{first_mapped}
use Rattle.ref_bundle.proofs.refusing.place_refusal.Goals as goal

pub returns-in_ok-at_place-in-Some : goal.returns-in_ok-at_place-in-Some
returns-in_ok-at_place-in-Some c =
    let layer = layer_in c.args.among.now.owns.now in
    let s = seen_spot c.args.spot.now in
    let said : option_map problem_said c.in_ok-problem.field-0 ≡ Some (problem_said c.in-Some.problem) = search rules in
    let place : refusal_said c.in_ok-at_place-in-Some.field-0 ≡ at_path s.document s.path (problem_said c.in-Some.problem) = search rules in
    ap (λ r. Some r) place
    ∙ ap (option_map (at_path s.document s.path)) (sym said ∙ c.in_ok-problem.ensures)
    ∙ sym (first_mapped (at_path s.document s.path) (shared_seen layer c.args.own.now.uri.now s ++ seen_problems layer (further_of c.args.among.now.further.now) c.args.among.now.bearers.now.registry.now (numbered_part c.args.among.now.top.now) s))

pub returns-in-None : goal.returns-in-None
returns-in-None c =
    let layer = layer_in c.args.among.now.owns.now in
    let s = seen_spot c.args.spot.now in
    let said : option_map problem_said c.in_ok-problem.field-0 ≡ None = search rules in
    ap (option_map (at_path s.document s.path)) (sym said ∙ c.in_ok-problem.ensures)
    ∙ sym (first_mapped (at_path s.document s.path) (shared_seen layer c.args.own.now.uri.now s ++ seen_problems layer (further_of c.args.among.now.further.now) c.args.among.now.bearers.now.registry.now (numbered_part c.args.among.now.top.now) s))
