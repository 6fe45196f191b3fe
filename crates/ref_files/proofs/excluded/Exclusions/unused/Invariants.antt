use Rattle.std.proofs.Common.{◌≡◌, map, string_bytes}
use Rattle.ref_files.specs.Excluded.{unused}
use Rattle.ref_files.proofs.excluded.Exclusions.unused.Given as goal

abbrev pub invariant-loop-excluded : goal.invariant-loop-excluded
invariant-loop-excluded l = map string_bytes l.unused.items ≡ unused l.yielded
