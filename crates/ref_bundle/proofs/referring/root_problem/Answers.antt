use Rattle.std.proofs.Common.{◌≡◌, ◌==◌, [], true, false, length, IfOk, cond, option_map, map, ap, sym, subst, ◌∙◌, rules}
use Rattle.ref_paths.specs.Path.{path_eq}
use Rattle.ref_paths.specs.Segment.{part_of}
use Rattle.ref_bundle.specs.Bundle.{added_definition}
use Rattle.ref_bundle.specs.Saying.{further_of, problem_said}
use Rattle.ref_bundle.specs.inner.Seen.{seen_reference, layer_in, numbered_part}
use Rattle.ref_bundle.specs.inner.First.{first}
use Rattle.ref_bundle.proofs.Firsts.{empty_path}
use Rattle.ref_bundle.proofs.referring.root_problem.Goals as goal

pub returns-then-is_empty : goal.returns-then-is_empty
returns-then-is_empty c =
    let added = added_definition (layer_in c.args.among.now.owns.now) (further_of c.args.among.now.further.now) (numbered_part c.args.among.now.top.now) (seen_reference c.args.reference.now) in
    let tested : c.is_empty.result ≡ (length c.args.path.now == 0) = search rules in
    let is : c.is_empty.result ≡ true = search rules in
    let empty : path_eq (map part_of c.args.path.now) [] ≡ true = empty_path c.args.path.now c.is_empty.result tested ∙ is in
    subst (λ t. IfOk c.added_definition.result (λ o. option_map problem_said o ≡ t)) (ap (λ b. first (cond b added [])) (sym empty)) c.added_definition.ensures

pub returns : goal.returns
returns c =
    let added = added_definition (layer_in c.args.among.now.owns.now) (further_of c.args.among.now.further.now) (numbered_part c.args.among.now.top.now) (seen_reference c.args.reference.now) in
    let tested : c.is_empty.result ≡ (length c.args.path.now == 0) = search rules in
    let is : c.is_empty.result ≡ false = search rules in
    let some : path_eq (map part_of c.args.path.now) [] ≡ false = empty_path c.args.path.now c.is_empty.result tested ∙ is in
    ap (λ b. first (cond b added [])) (sym some)
