-- A document of the program as a document of a world.
use Rattle.std.specs.Prelude.{List, map}
use Rattle.ref_definitions.specs.World as world
use Rattle.ref_index.specs.declared.document.Document.{Document}
use Rattle.ref_index.specs.Contents.{tree_of}

-- the document
abbrev pub document_of : Document → world.Document
document_of d = record { uri = d.uri; tree = tree_of d.contents; draft = d.draft }

-- documents, in order, as a layer of a world
abbrev pub layer_of : List Document → world.Layer
layer_of documents = map document_of documents
