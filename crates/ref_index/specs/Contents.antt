-- The tree of a document's value, whoever owns it.
use Rattle.serde_json.specs.Data.{Data}
use Rattle.serde_json.specs.View.{view}
use Rattle.ref_index.specs.declared.document.Contents.{Contents}
use Rattle.ref_index.specs.declared.document.Contents.TheVariants.{Borrowed, Shared, Owned}

-- the tree
abbrev pub tree_of : Contents → Data
tree_of (Borrowed value) = view value.now
tree_of (Shared value) = view value.value
tree_of (Owned value) = view value
