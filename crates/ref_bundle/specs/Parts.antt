-- The documents that a bundle is put together from.
use Rattle.std.specs.Prelude.{◌≡◌, ℕ}
use Rattle.serde_json.specs.View.{view}
use Rattle.ref_definitions.specs.World.{Document}
use Rattle.ref_bundle.specs.Embedding.{base_uri}
use Rattle.ref_bundle.specs.declared.embedding.Part as rust_part

-- a document of the program
abbrev pub part_document : rust_part.Part → Document
part_document p = record { uri = p.uri.now; tree = view p.tree.now; draft = p.draft }

-- with its number
abbrev pub numbered_part : rust_part.Part → ℕ × Document
numbered_part p = (p.number, part_document p)

-- it has its base URI
abbrev pub HasBase : rust_part.Part → Type 0
HasBase p = p.base.value ≡ base_uri (part_document p)
