use Rattle.std.proofs.Common.{◌≡◌, ◌≤◌, ◌+◌, ◌==◌, take, count_by, fold}
use Rattle.ref_configuration.specs.Lines.{next_column}
use Rattle.ref_configuration.proofs.place.line_and_column.Given as goal

abbrev pub invariant-loop-byte : goal.invariant-loop-byte
invariant-loop-byte l =
    (l.line ≡ count_by (λ b. b == 10) (take l.byte-index l.byte-items) + 1)
    × (l.column ≡ fold next_column 1 (take l.byte-index l.byte-items))
    × (l.line ≤ l.byte-index + 1) × (l.column ≤ l.byte-index + 1)
