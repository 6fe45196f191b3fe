-- A segment of the program as a part of a path.
use Rattle.std.specs.Prelude.{⊤}
use Rattle.std.specs.Cow.{cow_str_bytes}
use Rattle.percent_encoding.specs.Cow.{IsBorrowedStr}
use Rattle.ref_paths.specs.Path as path
use Rattle.ref_paths.specs.Path.{Part}
use Rattle.ref_paths.specs.declared.path.JsonPointerSegment.{JsonPointerSegment}
use Rattle.ref_paths.specs.declared.path.JsonPointerSegment.TheVariants.{Key, Index}

-- a key is seen as its bytes, whether it is borrowed or owned
abbrev pub part_of : JsonPointerSegment → Part
part_of (Key k) = path.Key (cow_str_bytes k)
part_of (Index i) = path.Index i

-- an index, or a key that borrows its text
abbrev pub OwnsNothing : JsonPointerSegment → Type 0
OwnsNothing (Key k) = IsBorrowedStr k
OwnsNothing (Index i) = ⊤
