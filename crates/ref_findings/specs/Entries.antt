-- What the program's findings say.
use Rattle.std.specs.Prelude.{◌≡◌, List, map, option_map, ⊤}
use Rattle.std.specs.List.{AllZip}
use Rattle.std.specs.declared.vec.Vec.{Vec}
use Rattle.std.specs.declared.alloc.Global.{Global}
use Rattle.serde_json.specs.View.{view}
use Rattle.ref_paths.specs.Segment.{part_of}
use Rattle.ref_uri.specs.Errors.{SaysRefusal}
use Rattle.ref_error.specs.Errors.{SaysFault}
use Rattle.ref_findings.specs.declared.source.Source as rust
use Rattle.ref_findings.specs.declared.finding.Finding as rust_finding
use Rattle.ref_findings.specs.declared.finding.Level.{Level}
use Rattle.ref_findings.specs.declared.finding.Level.TheVariants.{Error, Warning, Note}
use Rattle.ref_findings.specs.declared.finding.Problem as rust_problem
use Rattle.ref_findings.specs.declared.finding.Problem.TheVariants as problem
use Rattle.ref_findings.specs.Sources.{Source}
use Rattle.ref_findings.specs.Findings as findings
use Rattle.ref_findings.specs.Findings.{Finding, Problem}

-- a source of the program
abbrev pub source_of : rust.Source → Source
source_of s = record { uri = s.uri; tree = option_map (λ v. view v.now) s.value }

-- the level of what is found
abbrev pub level_of : rust_problem.Problem → Level
level_of problem.NotChecked = Warning
level_of problem.NamesNothing = Note
level_of (problem.GuessedDraft draft by) = Note
level_of problem.ListOfItems = Note
level_of (problem.Unchecked uri) = Note
level_of (problem.UnknownDialect uri) = Note
level_of other = Error

-- what the program says is wrong is what is wrong
abbrev pub IsProblemOf : rust_problem.Problem → Problem → Type 0
IsProblemOf problem.NotJson findings.NotJson = ⊤
IsProblemOf problem.NotChecked findings.NotChecked = ⊤
IsProblemOf problem.NotAText findings.NotAText = ⊤
IsProblemOf problem.RecursiveElsewhere findings.RecursiveElsewhere = ⊤
IsProblemOf problem.NamesNothing findings.NamesNothing = ⊤
IsProblemOf (problem.InvalidUri error) (findings.InvalidUri refusal) = SaysRefusal error refusal
IsProblemOf (problem.MissingDocument uri) (findings.MissingDocument text) = uri.value ≡ text
IsProblemOf (problem.LeadsNowhere uri error) (findings.LeadsNowhere text fault) =
    (uri.value ≡ text) × SaysFault error fault
IsProblemOf (problem.Unchecked uri) (findings.Unchecked text) = uri.value ≡ text
IsProblemOf (problem.UnknownDialect uri) (findings.UnknownDialect text) = uri.value ≡ text
IsProblemOf (problem.DuplicateIdentifier uri first)
    (findings.DuplicateIdentifier text source path) =
    (uri.value ≡ text) × (first.source ≡ source) × (map part_of first.path.items ≡ path)
IsProblemOf (problem.DuplicateAnchor uri first) (findings.DuplicateAnchor text source path) =
    (uri.value ≡ text) × (first.source ≡ source) × (map part_of first.path.items ≡ path)
IsProblemOf (problem.GuessedDraft draft by) (findings.GuessedDraft named source path) =
    (draft ≡ named) × (by.source ≡ source) × (map part_of by.path.items ≡ path)
IsProblemOf problem.ListOfItems findings.ListOfItems = ⊤
IsProblemOf other problem = ⊥

-- a finding of the program says the finding
abbrev pub IsFindingOf : rust_finding.Finding → Finding → Type 0
IsFindingOf f g =
    (f.source ≡ g.source) × (map part_of f.path.items ≡ g.path)
    × (option_map (λ k. k.now) f.keyword ≡ g.keyword)
    × (option_map (λ t. t.now) f.text ≡ g.text)
    × IsProblemOf f.problem g.problem

-- a list of the program says these
abbrev pub SaysFindings : Vec rust_finding.Finding Global → List Finding → Type 0
SaysFindings list fs = AllZip IsFindingOf list.items fs
