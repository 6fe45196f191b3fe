-- The result of `faults`.
use Rattle.std.specs.Prelude.{ℕ, List, [], ◌∷◌, ◌++◌, flat_map, codes, Option, None, Some, option_map, unwrap_or, Result, Ok, Err}
use Rattle.std.specs.Option.{option_to_list}
use Rattle.serde_json.specs.Data.{Data, string}
use Rattle.serde_json.specs.Find.{get}
use Rattle.ref_paths.specs.Path.{Part}
use Rattle.ref_draft.specs.declared.draft.Draft.{Draft}
use Rattle.ref_draft.specs.Schema.{trimmed_text}
use Rattle.ref_definitions.specs.Results.{◌>>=◌}
use Rattle.ref_definitions.specs.Fault as fault
use Rattle.ref_definitions.specs.Fault.{Fault, not_retrieved}
use Rattle.ref_findings.specs.Sources.{Source}
use Rattle.ref_findings.specs.Findings.{Finding, Problem, InvalidUri, MissingDocument, LeadsNowhere, UnknownDialect, findings}
use Rattle.ref_calls.specs.Objects.{object_of, list_of}
use Rattle.ref_calls.specs.Errors.{fault_members}
use Rattle.ref_calls.specs.Calls.{uri_in, draft_of, documents_at, needed_documents}
use Rattle.ref_serve.specs.Listings.{site_members}

-- the sources that documents are: each under its URI, of which `#` characters at the end are dropped
abbrev pub sources_under : List ℕ → List (List ℕ × Data) → Result (List Source) Data
sources_under field [] = Ok []
sources_under field (d ∷ ds) = do
  uri ← uri_in field (trimmed_text d.0)
  more ← sources_under field ds
  Ok (record { uri = uri; tree = Some d.1 } ∷ more)

-- the fault of a look-up of what a finding is about, or of opening a registry with it; other findings have none
abbrev pub problem_fault : Problem → Option Fault
problem_fault (InvalidUri refusal) = Some (fault.InvalidUri refusal)
problem_fault (MissingDocument uri) = Some (not_retrieved uri)
problem_fault (LeadsNowhere uri f) = Some f
problem_fault (UnknownDialect uri) = Some (fault.UnknownSpecification uri)
problem_fault other = None

-- the member of a text, where there is one
abbrev pub text_member : List ℕ → Option (List ℕ) → List (List ℕ × Data)
text_member key None = []
text_member key (Some text) = (key, string text) ∷ []

-- the place of a fault, its keyword and the text there, and its error
abbrev pub fault_object : ℕ → List Part → Option (List ℕ) → Option (List ℕ) → Fault → Data
fault_object document path keyword text found =
    object_of
    (site_members document path
    ++ (text_member (codes "keyword") keyword
    ++ (text_member (codes "text") text
    ++ (codes "error", object_of (fault_members found)) ∷ [])))

-- the object of a finding that has a fault
abbrev pub finding_object : Finding → Option Data
finding_object f = option_map (fault_object f.source f.path f.keyword f.text) (problem_fault f.problem)

-- those of documents, beside which others may be referred to
abbrev pub faults_list : Draft → List Source → List Source → Data
faults_list draft sources held =
    list_of (flat_map (λ f. option_to_list (finding_object f)) (findings draft sources held))

-- of documents under their texts
abbrev pub faults_of : Draft → List (List ℕ × Data) → List (List ℕ × Data) → Result Data Data
faults_of draft documents remote = do
  sources ← sources_under (codes "documents") documents
  held ← sources_under (codes "remote") remote
  Ok (faults_list draft sources held)

-- the documents under `remote`, or none
abbrev pub remote_at : Option Data → Result (List (List ℕ × Data)) Data
remote_at found =
    documents_at (codes "remote") found >>= λ documents. Ok (unwrap_or documents [])

-- `faults`
unfoldable pub faults_result : Data → Result Data Data
faults_result d = do
  draft ← draft_of d
  documents ← needed_documents (get (codes "documents") d)
  remote ← remote_at (get (codes "remote") d)
  faults_of draft documents remote
