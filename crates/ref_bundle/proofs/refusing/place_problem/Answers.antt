use Rattle.std.proofs.Common.{◌≡◌, ◌++◌, IfOk, option_map, sym, subst}
use Rattle.ref_bundle.specs.Saying.{further_of, problem_said, seen_spot}
use Rattle.ref_bundle.specs.inner.Seen.{layer_in, numbered_part}
use Rattle.ref_bundle.specs.inner.First.{first, shared_seen}
use Rattle.ref_bundle.specs.Bundle.{seen_problems}
use Rattle.ref_bundle.proofs.Firsts.{passed_on}
use Rattle.ref_bundle.proofs.refusing.place_problem.Goals as goal

pub returns : goal.returns
returns c =
    let layer = layer_in c.args.among.now.owns.now in
    let s = seen_spot c.args.spot.now in
    let shared = shared_seen layer c.args.own.now.uri.now s in
    let referring = seen_problems layer (further_of c.args.among.now.further.now) c.args.among.now.bearers.now.registry.now (numbered_part c.args.among.now.top.now) s in
    subst (λ o. IfOk o (λ p. option_map problem_said p ≡ first (shared ++ referring))) (sym c.first_found.ensures.value)
    (passed_on problem_said shared referring c.shared_uris.result c.reference_problems.result (c.shared_uris.ensures layer c.requires.tables) c.reference_problems.ensures.value)
