use Rattle.std.proofs.Common.{rules, ◌≡◌}
use Rattle.std.proofs.lemmas.Str.{IsCharBoundary-start}
use Rattle.ref_fixes.specs.Replace as spec
use Rattle.ref_fixes.proofs.replace.replaced.Goals as goal

pub parts-init : goal.parts-init
parts-init c = search (IsCharBoundary-start c.args.text.now c.utf8.text, rules)
