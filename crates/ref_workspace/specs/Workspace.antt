-- The documents that are open, and what is asked of all of them.
use Rattle.std.specs.Prelude.{ℕ, ◌+◌, ◌-◌, if◌then◌else◌, nat_lt, List, [], ◌∷◌, ◌++◌, map, take, drop, Option}
use Rattle.std.specs.List.{insert, remove}
use Rattle.serde_json.specs.Data.{Data}
use Rattle.ref_draft.specs.declared.draft.Draft.{Draft}
use Rattle.ref_findings.specs.Sources.{Source, tree_in_place}
use Rattle.ref_findings.specs.Findings as found
use Rattle.ref_findings.specs.Findings.{Finding}

-- a document: what it is called, its URI, its text, and its tree, where it has one
pub record Document : Type 0 where
  pub name : List ℕ
  pub uri : List ℕ
  pub text : List ℕ
  pub tree : Option Data

-- the documents by their numbers, of which the first are asked about and the last were retrieved; and what else was retrieved
pub record Workspace : Type 0 where
  pub draft : Draft
  pub documents : List Document
  pub asked : ℕ
  pub opened : ℕ
  pub held : List Source

-- ---- what is open

-- with another document that is asked about
abbrev pub with_asked : Document → Workspace → Workspace
with_asked d w =
    record w { documents = insert w.documents w.asked d; asked = w.asked + 1; opened = w.opened + 1 }

-- with another one that references may lead into
abbrev pub with_beside : Document → Workspace → Workspace
with_beside d w =
    record w { documents = insert w.documents w.opened d; opened = w.opened + 1 }

-- with another one that was retrieved
abbrev pub with_retrieved : Document → Workspace → Workspace
with_retrieved d w = record w { documents = w.documents ++ d ∷ [] }

-- how many of the first are left without the one with a number
abbrev pub count_without : ℕ → ℕ → ℕ
count_without number count = if nat_lt number count then count - 1 else count

-- without the document with a number, where one is open
abbrev pub without : ℕ → Workspace → Workspace
without number w =
    if nat_lt number w.opened then
    record w {
      documents = remove w.documents number;
      asked = count_without number w.asked;
      opened = w.opened - 1;
    }
    else w

-- ---- what is wrong

-- a document as a source of findings
abbrev pub as_source : Document → Source
as_source d = record { uri = d.uri; tree = d.tree }

-- the sources that are asked about
abbrev pub sources : Workspace → List Source
sources w = map as_source (take w.asked w.documents)

-- those that references may lead into
abbrev pub others : Workspace → List Source
others w = map as_source (drop w.asked w.documents) ++ w.held

-- all that is wrong with what is asked about
abbrev pub findings : Workspace → List Finding
findings w = found.findings w.draft (sources w) (others w)

-- how many references there are in what is asked about
abbrev pub references : Workspace → ℕ
references w = found.references w.draft (sources w)

-- the trees that are read in place of the own ones of documents
abbrev pub trees_in_place : Workspace → List (Option Data)
trees_in_place w = map (tree_in_place w.draft) (map as_source w.documents)
