-- The error objects of answers.
use Rattle.std.specs.Prelude.{◌≡◌, ℕ, List, [], ◌∷◌, ◌++◌, codes, Result, Ok, Err, Option, Some, None}
use Rattle.serde_json.specs.Data.{Data, string, object, put}
use Rattle.serde_json.specs.declared.value.Value.{Value}
use Rattle.ref_definitions.specs.Fault.{Fault, fault_text, Unretrievable, PointerToNowhere, InvalidPercentEncoding, InvalidArrayIndex, NoSuchAnchor, InvalidAnchor, InvalidUri, UnknownSpecification, CircularMetaschema, RetrievalLimit}
use Rattle.ref_error.specs.declared.error.Error.{Error}
use Rattle.ref_error.specs.declared.error.Error.TheVariants as error
use Rattle.ref_error.specs.Errors.{SaysFault}
use Rattle.ref_calls.specs.declared.fault.Wrong.{Wrong}
use Rattle.ref_calls.specs.declared.fault.Wrong.TheVariants.{UnknownField, MissingField, InvalidField, UnknownRegistry, UnknownScope}
use Rattle.ref_json.specs.declared.stop.Stop.{Stop}
use Rattle.ref_json.specs.declared.stop.Stop.TheVariants.{Memory}
use Rattle.ref_calls.specs.Outcome.{IsStop}
use Rattle.ref_calls.specs.Objects.{object_of, whole}
use Rattle.ref_calls.specs.declared.why.NotJson.{NotJson}
use Rattle.ref_calls.specs.Why.{reason_name, reason_text}

-- an error's name and message
abbrev pub error_members : List ℕ → List ℕ → List (List ℕ × Data)
error_members name message = (codes "name", string name) ∷ (codes "message", string message) ∷ []

-- an error without further members
abbrev pub plain_error : List ℕ → List ℕ → Data
plain_error name message = object_of (error_members name message)

-- the error of a line that is no JSON: why, and the place where it can't be read, in bytes
abbrev pub not_json_members : NotJson → ℕ → List (List ℕ × Data)
not_json_members reason offset =
    error_members (codes "NotJson") (reason_text reason)
    ++ (codes "reason", string (reason_name reason)) ∷ (codes "offset", whole offset) ∷ []

unfoldable pub not_json : NotJson → ℕ → Data
not_json reason offset = object_of (not_json_members reason offset)

-- the error of a text that isn't read as YAML: what is wrong, by the name of the fault, a sentence on it, and where, in bytes of the text
abbrev pub not_yaml_members : List ℕ → List ℕ → ℕ → List (List ℕ × Data)
not_yaml_members reason sentence offset =
    error_members (codes "NotYaml") sentence
    ++ (codes "reason", string reason) ∷ (codes "offset", whole offset) ∷ []

unfoldable pub not_yaml : List ℕ → List ℕ → ℕ → Data
not_yaml reason sentence offset = object_of (not_yaml_members reason sentence offset)

-- ---- where it is in a call

-- an error with one more member
abbrev pub with_member : List ℕ → Data → Data → Data
with_member key value (object ms) = object (put key value ms)
with_member key value other = other

-- with the member of the call that it is about
abbrev pub with_field : List ℕ → Data → Data
with_field field error = with_member (codes "field") (string field) error

abbrev pub in_field : {A : Type 0} → List ℕ → Result A Data → Result A Data
in_field field (Ok x) = Ok x
in_field field (Err error) = Err (with_field field error)

-- with the number of the item that it is about, in the list that the member is, counted from 0
abbrev pub with_index : ℕ → Data → Data
with_index n error = with_member (codes "index") (whole n) error

abbrev pub at_index : {A : Type 0} → ℕ → Result A Data → Result A Data
at_index n (Ok x) = Ok x
at_index n (Err error) = Err (with_index n error)

-- ---- what is wrong with a member

abbrev pub wrong_name : Wrong → List ℕ
wrong_name UnknownField = codes "UnknownField"
wrong_name MissingField = codes "MissingField"
wrong_name InvalidField = codes "InvalidField"
wrong_name UnknownRegistry = codes "UnknownRegistry"
wrong_name UnknownScope = codes "UnknownScope"

abbrev pub wrong_text : Wrong → List ℕ
wrong_text UnknownField = codes "Unknown member"
wrong_text MissingField = codes "Missing member"
wrong_text InvalidField = codes "Wrong type or form of the member"
wrong_text UnknownRegistry = codes "No open registry has the number under"
wrong_text UnknownScope = codes "No kept scope of the registry has the number under"

-- the members of its error
abbrev pub field_members : Wrong → List ℕ → List (List ℕ × Data)
field_members wrong field =
    (codes "name", string (wrong_name wrong))
    ∷ (codes "message", string (wrong_text wrong ++ codes " '" ++ field ++ codes "'"))
    ∷ (codes "field", string field) ∷ []

-- its error
unfoldable pub field_error : Wrong → List ℕ → Data
field_error wrong field = object_of (field_members wrong field)

-- ---- faults

abbrev pub fault_name : Fault → List ℕ
fault_name (Unretrievable uri source) = codes "Unretrievable"
fault_name (PointerToNowhere pointer) = codes "PointerToNowhere"
fault_name (InvalidPercentEncoding pointer) = codes "InvalidPercentEncoding"
fault_name (InvalidArrayIndex pointer index) = codes "InvalidArrayIndex"
fault_name (NoSuchAnchor anchor) = codes "NoSuchAnchor"
fault_name (InvalidAnchor anchor) = codes "InvalidAnchor"
fault_name (InvalidUri refusal) = codes "InvalidUri"
fault_name (UnknownSpecification uri) = codes "UnknownSpecification"
fault_name (CircularMetaschema uri) = codes "CircularMetaschema"
fault_name (RetrievalLimit uri limit) = codes "RetrievalLimit"

-- the document that is wanted and isn't there: its URI, and by what it is wanted; where the limit is reached the first is told
abbrev pub wanted_document : Fault → Option (List ℕ × Option (List ℕ))
wanted_document (Unretrievable uri source) = Some (uri, Some (codes "reference"))
wanted_document (UnknownSpecification uri) = Some (uri, Some (codes "meta-schema"))
wanted_document (RetrievalLimit uri limit) = Some (uri, None)
wanted_document other = None

abbrev pub kind_member : Option (List ℕ) → List (List ℕ × Data)
kind_member None = []
kind_member (Some kind) = (codes "kind", string kind) ∷ []

abbrev pub wanted_members : Option (List ℕ × Option (List ℕ)) → List (List ℕ × Data)
wanted_members None = []
wanted_members (Some w) = (codes "uri", string w.0) ∷ kind_member w.1

-- the members of a fault's error
abbrev pub fault_members : Fault → List (List ℕ × Data)
fault_members fault =
    error_members (fault_name fault) (fault_text fault) ++ wanted_members (wanted_document fault)

-- a fault's error
unfoldable pub fault_error : Fault → Data
fault_error fault = object_of (fault_members fault)

-- the stop of an error: that memory ran out, or the error of the fault that it says
abbrev pub IsStopOf : Error → Stop Value → Type 0
IsStopOf (error.Memory memory) stop = stop ≡ Memory
IsStopOf other stop = (fault : Fault) → SaysFault other fault → IsStop stop (fault_error fault)

-- a fault as an error object
abbrev pub as_error : {A : Type 0} → Result A Fault → Result A Data
as_error (Ok x) = Ok x
as_error (Err fault) = Err (fault_error fault)
