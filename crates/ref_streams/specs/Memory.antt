-- A source over memory, given by how many of its bytes were read.
use Rattle.std.specs.Prelude.{ℕ, Bool, List, Option, Some, length, drop, ◌==◌}
use Rattle.ref_streams.specs.declared.source.MemorySource.{MemorySource}

-- the bytes that reads will give
abbrev pub bytes_left : MemorySource → Option (List ℕ)
bytes_left s = Some (drop s.position s.bytes.now)

-- none is left
abbrev pub is_at_end : MemorySource → Bool
is_at_end s = s.position == length s.bytes.now
