use Rattle.std.proofs.Common.{◌≡◌, [], ℕ, cond, IfOk, List, option_map, map, ap, sym, subst}
use Rattle.ref_paths.specs.Path.{path_eq}
use Rattle.ref_paths.specs.Segment.{part_of}
use Rattle.ref_definitions.specs.World.{Document}
use Rattle.ref_bundle.specs.Bundle.{Problem, replaced_in, added_in, embedded_problems}
use Rattle.ref_bundle.specs.Saying.{problem_said}
use Rattle.ref_bundle.specs.inner.Seen.{seen_reference, part_document, document_in}
use Rattle.ref_bundle.specs.inner.First.{first, first_found}
use Rattle.ref_bundle.proofs.Firsts.{passed_on}
use Rattle.ref_bundle.proofs.referring.embedded_problem.Goals as goal

pub returns : goal.returns
returns c =
    let r = seen_reference c.args.reference.now in
    let path = map part_of c.args.path.now in
    let d = part_document c.in_ok-part.part in
    let rest : List Problem = cond (path_eq path []) (added_in c.args.draft r d) [] in
    let same = ap (λ (e : ℕ × Document). e.1) c.in_ok-part.ensures.value in
    let both = passed_on problem_said (replaced_in r.uri d) rest c.replaced_in.result c.added_at.result c.replaced_in.ensures c.added_at.ensures in
    subst (λ o. IfOk o (λ found. option_map problem_said found ≡ first (embedded_problems c.args.draft r path (document_in c.args.own.now)))) (sym c.first_found.ensures.value)
    (subst (λ x. IfOk (first_found c.replaced_in.result c.added_at.result) (λ found. option_map problem_said found ≡ first (embedded_problems c.args.draft r path x))) same both)
