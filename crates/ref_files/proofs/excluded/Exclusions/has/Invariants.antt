use Rattle.std.proofs.Common.{◌≡◌, ◌++◌, drop, take}
use Rattle.ref_files.specs.Excluded.{is_excluded, used}
use Rattle.ref_files.proofs.excluded.Exclusions.has.Given as goal

abbrev pub invariant-loop-number : goal.invariant-loop-number
invariant-loop-number l =
    (l.is_excluded ≡ is_excluded l.path (take l.number l.initial.self.list.items))
    × (l.self.list.items ≡ used l.path (take l.number l.initial.self.list.items) ++ drop l.number l.initial.self.list.items)
