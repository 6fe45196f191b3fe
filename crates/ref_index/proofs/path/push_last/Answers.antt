use Rattle.std.proofs.Common.{◌≡◌, ◌∙◌, sym, ap, Some, rules, ◌∷◌, [], ◌++◌}
use Rattle.ref_paths.specs.Path.{parent_path}
use Rattle.ref_paths.specs.Segment.{part_of}
use Rattle.ref_index.proofs.Paths.{last_is_there}
use Rattle.ref_index.proofs.path.push_last.Goals as goal

pub returns : goal.returns
returns c =
    let parent : parent_path c.args.path.now ≡ Some c.in-Some.before.now = search rules in
    let copied : part_of c.in_ok-segment.segment ≡ part_of c.segment.result.now = search rules in (
      c.in_ok-segment.segment,
      c.in_ok-push.ensures.items,
      last_is_there c.args.path.now c.in-Some.before.now parent ∙ ap (λ p. c.in-Some.before.now ++ p ∷ []) (sym c.segment.ensures.value ∙ sym copied),
    )
