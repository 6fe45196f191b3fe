-- Steps as parts of a path, and texts in quotes.
use Rattle.std.specs.Prelude.{ℕ, List, Option, Some, None, string_bytes}
use Rattle.serde_json.specs.Data.{Data, string}
use Rattle.serde_json.specs.Read.{read}
use Rattle.ref_paths.specs.Path.{Part, Key, Index}
use Rattle.ref_positions.specs.declared.part.Step.{Step}
use Rattle.ref_positions.specs.declared.part.Step.TheVariants.{Member, Item}

-- a step as a part of a path
abbrev pub part_of : Step → Part
part_of (Member key) = Key (string_bytes key)
part_of (Item index) = Index index

-- the text that a tree is, where it is one
abbrev pub text_in : Option Data → Option (List ℕ)
text_in (Some (string text)) = Some text
text_in other = None

-- the text that bytes of JSON are
abbrev pub decoded : List ℕ → Option (List ℕ)
decoded token = text_in (read token)
