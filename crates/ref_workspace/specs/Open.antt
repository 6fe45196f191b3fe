-- What the program's documents are.
use Rattle.std.specs.Prelude.{map, string_bytes}
use Rattle.ref_files.specs.Texts.{tree_of}
use Rattle.ref_findings.specs.Held.{held_source}
use Rattle.ref_workspace.specs.declared.workspace.Document as rust_document
use Rattle.ref_workspace.specs.declared.workspace.Workspace as rust_workspace
use Rattle.ref_workspace.specs.Workspace.{Document, Workspace}

-- a document of the program
abbrev pub document_of : rust_document.Document → Document
document_of d = record {
  name = string_bytes d.name;
  uri = d.uri;
  text = string_bytes d.text.text;
  tree = tree_of d.text;
}

-- a workspace of the program
abbrev pub workspace_of : rust_workspace.Workspace → Workspace
workspace_of w = record {
  draft = w.draft;
  documents = map document_of w.documents.items;
  asked = w.asked;
  opened = w.opened;
  held = map held_source w.held.items;
}
