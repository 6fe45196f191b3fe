-- A bundle, as it is put together from its documents.
use Rattle.std.specs.Prelude.{ℕ, map, slice_get, Option, option_map}
use Rattle.serde_json.specs.Data.{Data, string}
use Rattle.serde_json.specs.View.{view}
use Rattle.ref_bundle.specs.Bundle.{Bundle, bundle_of, member_of}
use Rattle.ref_bundle.specs.Parts.{part_document, numbered_part}
use Rattle.ref_bundle.specs.declared.parts.BundleParts as rust_parts
use Rattle.ref_bundle.specs.declared.members.Member as rust_member
use Rattle.ref_bundle.specs.declared.members.Member.TheVariants as members

-- the bundle of a root with these documents
abbrev pub assembled : rust_parts.BundleParts → Bundle
assembled p = bundle_of (part_document p.root) (map numbered_part p.embedded.items)

-- the tree of the document with an index among them, below that root
abbrev pub embedded_at : rust_parts.BundleParts → ℕ → Option Data
embedded_at p n =
    option_map (λ e. (member_of p.root.draft e).1) (slice_get (map numbered_part p.embedded.items) n)

-- the value of a member
abbrev pub member_value : rust_member.Member → Data
member_value (members.Own value) = view value.now
member_value (members.Text text) = string text.now
