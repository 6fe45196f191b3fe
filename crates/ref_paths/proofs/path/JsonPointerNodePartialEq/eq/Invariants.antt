use Rattle.std.proofs.Common.{◌≡◌}
use Rattle.ref_paths.specs.Path.{path_eq}
use Rattle.ref_paths.proofs.path.JsonPointerNodePartialEq.eq.Given as goal

abbrev pub invariant-loop-left : goal.invariant-loop-left
invariant-loop-left l = path_eq l.left l.right ≡ path_eq l.fn.self l.fn.other
