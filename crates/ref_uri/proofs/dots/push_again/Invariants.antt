use Rattle.std.proofs.Common.{◌≡◌, ◌≤◌, ◌-◌, [], take, drop, length, string_bytes}
use Rattle.std.specs.Str.{IsAscii}
use Rattle.ref_uri.specs.DotSegments.{segments}
use Rattle.ref_uri.specs.inner.Removal.{ended_path}
use Rattle.ref_uri.specs.declared.dots.Progress.TheVariants.{Front}
use Rattle.ref_uri.proofs.dots.push_again.Given as goal

abbrev pub invariant-segments : goal.invariant-segments
invariant-segments l =
    (take l.end (string_bytes l.buffer) ≡ string_bytes l.fn.buffer)
    × (ended_path l.progress (drop l.end (string_bytes l.buffer)) (segments (drop l.at (string_bytes l.fn.buffer))) ≡ ended_path Front [] (segments (drop l.start (string_bytes l.fn.buffer))))
    × IsAscii (string_bytes l.buffer) × (l.at ≤ l.end) × (l.end ≤ length (string_bytes l.buffer))

abbrev pub decreases-segments : goal.decreases-segments
decreases-segments l = l.end - l.at
