-- The tree that a text is.
use Rattle.std.specs.Prelude.{◌≡◌, ◌≤◌, length, ℕ, List, Option, None, if◌then◌else◌}
use Rattle.std.specs.Str.{is_utf8}
use Rattle.serde_json.specs.Data.{Data}
use Rattle.serde_json.specs.Read.{read}
use Rattle.ref_json.specs.declared.stop.Stop.{Stop}
use Rattle.ref_json.specs.declared.stop.Stop.TheVariants.{Memory, Because}

-- the tree that serde_json reads; bytes that are no UTF-8 are no JSON (RFC 8259, section 8.1)
abbrev pub tree_of : List ℕ → Option Data
tree_of bytes = if is_utf8 bytes then read bytes else None

-- bytes are no JSON, which is seen at one of them or at their end; or memory ran out
abbrev pub IsNotJson : List ℕ → Stop ℕ → Type 0
IsNotJson bytes Memory = Unit {0}
IsNotJson bytes (Because offset) = (tree_of bytes ≡ None) × (offset ≤ length bytes)
