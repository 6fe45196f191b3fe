use Rattle.std.proofs.Common.{◌≡◌, ◌∙◌, sym, ap, Some, rules, ◌∷◌, [], ◌++◌}
use Rattle.ref_paths.specs.Path.{parent_path}
use Rattle.ref_index.proofs.Paths.{last_is_there}
use Rattle.ref_index.proofs.path.push_owned.Goals as goal

pub returns : goal.returns
returns c =
    let parent : parent_path c.args.path.now ≡ Some c.in-Some.before.now = search rules in (
      c.in_ok-part.part,
      c.in_ok-push.ensures.items,
      last_is_there c.args.path.now c.in-Some.before.now parent ∙ ap (λ p. c.in-Some.before.now ++ p ∷ []) (sym c.segment.ensures.value ∙ sym c.in_ok-part.ensures),
    )
