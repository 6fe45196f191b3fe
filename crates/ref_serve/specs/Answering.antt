-- The answer to a line, and what becomes of the open registries.
use Rattle.std.specs.Prelude.{◌≡◌, ◌≤◌, length, ℕ, List, [], codes, Option, None, Some, Result, Ok, Err}
use Rattle.serde_json.specs.Data.{Data}
use Rattle.serde_json.specs.Find.{get}
use Rattle.ref_calls.specs.declared.call.Call.{Call}
use Rattle.ref_calls.specs.declared.call.Call.TheVariants.{Hello, Uri, DraftOf, Yaml, Faults, Open, Lookup, Recursive, Enter, Follow, Scope, Places, Survey, References, Dangling, Compare, Vocabularies, Bundle, Close}
use Rattle.ref_calls.specs.Objects.{object_of, answer_of, IsLineOf}
use Rattle.ref_calls.specs.Errors.{not_json}
use Rattle.ref_calls.specs.Why.{why}
use Rattle.ref_json.specs.Text.{tree_of}
use Rattle.ref_calls.specs.Calls.{call_of}
use Rattle.ref_definitions.specs.Results.{◌>>=◌}
use Rattle.ref_serve.specs.State.{OpenRegistry, Registries, scopes_at, registry_under, without_registry, with_scope}
use Rattle.ref_serve.specs.Opening.{opening_of, IsOpenedAs}
use Rattle.ref_serve.specs.Results.{IsLookup, IsRecursiveCall, enter_result, keeping_of, kept_object}
use Rattle.ref_serve.specs.Following.{IsFollow}
use Rattle.ref_serve.specs.About.{hello_result, uri_result, draft_result}
use Rattle.ref_serve.specs.Faults.{faults_result}
use Rattle.ref_serve.specs.Where.{placed}
use Rattle.ref_calls.specs.Yaml.{IsCallRead, IsYaml}
use Rattle.ref_serve.specs.References.{IsReferences}
use Rattle.ref_serve.specs.Surveys.{IsSurveyed}
use Rattle.ref_serve.specs.Comparisons.{compare_result}
use Rattle.ref_serve.specs.Listings.{places_result, dangling_result, vocabularies_result, IsBundle}

-- `faults`, whose texts of YAML are read first
unfoldable pub IsFaults : Data → Result Data Data → Type 0
IsFaults d outcome = (read : Result Data Data) × IsCallRead d read × (outcome ≡ (read >>= faults_result))

-- the result of a call that changes no registry, or its error; of `open`, `scope` and `close` see `IsReply`
abbrev pub IsResult : Call → Registries → Data → Result Data Data → Type 0
IsResult Hello state d outcome = outcome ≡ Ok hello_result
IsResult Uri state d outcome = outcome ≡ uri_result d
IsResult DraftOf state d outcome = outcome ≡ draft_result d
IsResult Yaml state d outcome = IsYaml d outcome
IsResult Faults state d outcome = IsFaults d outcome
IsResult Lookup state d outcome = IsLookup state d outcome
IsResult Recursive state d outcome = IsRecursiveCall state d outcome
IsResult Enter state d outcome = outcome ≡ enter_result state d
IsResult Follow state d outcome = IsFollow state d outcome
IsResult Places state d outcome = outcome ≡ places_result state d
IsResult Survey state d outcome = IsSurveyed state d outcome
IsResult References state d outcome = IsReferences state d outcome
IsResult Dangling state d outcome = outcome ≡ dangling_result state d
IsResult Compare state d outcome = outcome ≡ compare_result state d
IsResult Vocabularies state d outcome = outcome ≡ vocabularies_result state d
IsResult Bundle state d outcome = IsBundle state d outcome
IsResult Open state d outcome = Unit {0}
IsResult Scope state d outcome = Unit {0}
IsResult Close state d outcome = Unit {0}

-- a registry is opened after the others, or there is an error, and nothing changes
unfoldable pub IsOpened : Registries → Data → Registries → Result Data Data → Type 0
IsOpened state d next outcome = IsOpenedAs (opening_of state d) state next outcome

-- `open`, whose texts of YAML are read first
abbrev pub IsOpenedRead : Registries → Result Data Data → Registries → Result Data Data → Type 0
IsOpenedRead state (Ok e) next outcome = IsOpened state e next outcome
IsOpenedRead state (Err error) next outcome = (outcome ≡ Err error) × (next ≡ state)

unfoldable pub IsOpening : Registries → Data → Registries → Result Data Data → Type 0
IsOpening state d next outcome =
    (read : Result Data Data) × IsCallRead d read × IsOpenedRead state read next outcome

-- an error with its place in the documents of the call, as they are read
abbrev pub placed_read : Result Data Data → Data → Data
placed_read (Ok e) error = placed e error
placed_read (Err other) error = error

abbrev pub IsPlaced : Data → Result Data Data → Result Data Data → Type 0
IsPlaced d (Ok result) outcome = outcome ≡ Ok result
IsPlaced d (Err error) outcome =
    (read : Result Data Data) × IsCallRead d read × (outcome ≡ Err (placed_read read error))

-- the same, whose errors have their place
unfoldable pub IsOpen : Registries → Data → Registries → Result Data Data → Type 0
IsOpen state d next outcome =
    (opened : Result Data Data) × IsOpening state d next opened × IsPlaced d opened outcome

-- a scope is kept after the others of its registry, and the result is its number
abbrev pub IsKept : Registries → Registries → Result (ℕ × List (List ℕ)) Data → Result Data Data
    → Type 0
IsKept state next (Ok keeping) outcome =
    (outcome ≡ Ok (kept_object (length (scopes_at state keeping.0))))
    × (next ≡ with_scope state keeping.0 keeping.1)
IsKept state next (Err error) outcome = (outcome ≡ Err error) × (next ≡ state)

-- a registry is closed, and the result has no members
abbrev pub IsClosed : Registries → Registries → ℕ → Result Data Data → Type 0
IsClosed state next number outcome =
    (outcome ≡ Ok (object_of [])) × (next ≡ without_registry state number)

-- what a call gives, and the registries after it
abbrev pub IsClose : Registries → Registries → Result (ℕ × OpenRegistry) Data → Result Data Data
    → Type 0
IsClose state next (Ok found) outcome = IsClosed state next found.0 outcome
IsClose state next (Err error) outcome = (outcome ≡ Err error) × (next ≡ state)

abbrev pub IsReply : Call → Registries → Data → Registries → Result Data Data → Type 0
IsReply Open state d next outcome = IsOpen state d next outcome
IsReply Scope state d next outcome = IsKept state next (keeping_of state d) outcome
IsReply Close state d next outcome =
    IsClose state next (registry_under state d (codes "registry")) outcome
IsReply call state d next outcome = IsResult call state d outcome × (next ≡ state)

-- the same of an object that may be no call
abbrev pub IsReplyTo : Result Call Data → Registries → Data → Registries → Result Data Data → Type 0
IsReplyTo (Ok call) state d next outcome = IsReply call state d next outcome
IsReplyTo (Err error) state d next outcome = (outcome ≡ Err error) × (next ≡ state)

-- the line of the error of a line that is no JSON: why, with a byte of it or its end as the place
abbrev pub IsNotJsonLine : List ℕ → List ℕ → Type 0
IsNotJsonLine line text =
    (offset : ℕ) × (offset ≤ length line)
    × IsLineOf (answer_of None (codes "error") (not_json (why line) offset)) text

-- the answer to a call
abbrev pub outcome_object : Option Data → Result Data Data → Data
outcome_object id (Ok result) = answer_of id (codes "result") result
outcome_object id (Err error) = answer_of id (codes "error") error

abbrev pub IsAnswerTo : Registries → List ℕ → Option Data → Registries → List ℕ → Type 0
IsAnswerTo state line None next text = IsNotJsonLine line text × (next ≡ state)
IsAnswerTo state line (Some d) next text =
    (outcome : Result Data Data) × IsReplyTo (call_of d) state d next outcome
    × IsLineOf (outcome_object (get (codes "id") d) outcome) text

-- The answer to a line, and the registries after it. An error leaves them as they were.
unfoldable pub IsAnswer : Registries → List ℕ → Registries → List ℕ → Type 0
IsAnswer state line next text = IsAnswerTo state line (tree_of line) next text
