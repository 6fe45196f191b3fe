-- Which value of a text is in which, and which are arrays.
use Rattle.std.specs.Prelude.{ℕ, ◌+◌, ◌==◌, ◌||◌, ◌&&◌, Bool, true, false, List, Option, Some, None, nat_le, slice_get, if◌then◌else◌, not}
use Rattle.std.specs.Option.{option_map_or}
use Rattle.ref_outline.specs.declared.outline.Node.{Node}

-- a value is where another one is
abbrev pub is_in : Node → Option Node → Bool
is_in node (Some outer) = nat_le outer.start node.start && nat_le node.end outer.end
is_in node None = false

-- white space after a dash (YAML 1.2.2, 8.2.1)
abbrev pub is_blank : ℕ → Bool
is_blank b = b == 32 || b == 9 || b == 10 || b == 13

-- an array begins at an offset: by a bracket, or in a block of YAML by a dash and white space, or the end of the text
abbrev pub begins_array : Option ℕ → Option ℕ → Bool
begins_array None next = false
begins_array (Some b) next = b == 91 || (b == 45 && option_map_or is_blank next true)

abbrev pub is_array : List ℕ → ℕ → Bool
is_array text start = begins_array (slice_get text start) (slice_get text (start + 1))

-- the number of a kind (3.17, "SymbolKind"): a boolean, an array or an object
abbrev pub kind_of : List ℕ → Node → ℕ
kind_of text node = if not node.is_large then 17 else (if is_array text node.start then 18 else 19)
