-- The texts of errors, and which of the defined faults an error stands for.
use Rattle.std.specs.Prelude.{◌≡◌, ℕ, List, codes, string_bytes, Bool, true, false, Result, Ok, Err, ⊤}
use Rattle.ref_uri.specs.Errors.{uri_error_text, SaysRefusal}
use Rattle.ref_uri.specs.declared.error.UriFault.{UriFault}
use Rattle.ref_uri.specs.declared.error.UriFault.TheVariants as uri_fault
use Rattle.ref_definitions.specs.Fault as fault
use Rattle.ref_definitions.specs.Fault.{Fault, fault_text}
use Rattle.ref_error.specs.declared.error.Reason.{Reason}
use Rattle.ref_error.specs.declared.error.Reason.TheVariants.{NotFetched, NoDocument, NotSupported, Text}
use Rattle.ref_error.specs.declared.error.RetrieveError.{RetrieveError}
use Rattle.ref_error.specs.declared.error.RetrieveError.TheVariants.{Refused, Memory}
use Rattle.ref_error.specs.declared.error.Error.{Error}
use Rattle.ref_error.specs.declared.error.Error.TheVariants as error

-- what is displayed of a reason
abbrev pub reason_text : Reason → List ℕ
reason_text NotFetched = codes "Default retriever does not fetch resources"
reason_text NoDocument = codes "no document under this URI"
reason_text NotSupported =
    codes "Retrieving external resources is not supported once the registry is populated"
reason_text (Text text) = string_bytes text

-- of a refusal, or of being out of memory
abbrev pub retrieve_error_text : RetrieveError → List ℕ
retrieve_error_text (Refused reason) = reason_text reason
retrieve_error_text (Memory error) = codes "Out of memory"

-- of an error: the text of the fault that it is named after
abbrev pub error_text : Error → List ℕ
error_text (error.Unretrievable uri source) =
    fault_text (fault.Unretrievable (string_bytes uri) (retrieve_error_text source))
error_text (error.PointerToNowhere pointer) =
    fault_text (fault.PointerToNowhere (string_bytes pointer))
error_text (error.InvalidPercentEncoding pointer) =
    fault_text (fault.InvalidPercentEncoding (string_bytes pointer))
error_text (error.InvalidArrayIndex pointer index) =
    fault_text (fault.InvalidArrayIndex (string_bytes pointer) (string_bytes index))
error_text (error.NoSuchAnchor anchor) = fault_text (fault.NoSuchAnchor (string_bytes anchor))
error_text (error.InvalidAnchor anchor) = fault_text (fault.InvalidAnchor (string_bytes anchor))
error_text (error.InvalidUri refused) = uri_error_text refused
error_text (error.UnknownSpecification specification) =
    fault_text (fault.UnknownSpecification (string_bytes specification))
error_text (error.CircularMetaschema uri) = fault_text (fault.CircularMetaschema (string_bytes uri))
error_text (error.RetrievalLimit uri limit) =
    fault_text (fault.RetrievalLimit (string_bytes uri) limit)
error_text (error.Memory memory) = codes "Out of memory"

-- whether an error is out of memory
abbrev pub is_memory : Error → Bool
is_memory (error.Memory memory) = true
is_memory other = false

-- where an error has a source, it is a refusal for this very reason
abbrev pub IsForReason : Error → Reason → Type 0
IsForReason (error.Unretrievable uri source) reason = source ≡ Refused reason
IsForReason other reason = ⊤

-- the source of an error says why a retriever refuses; out of memory is no refusal
abbrev pub SaysWhy : RetrieveError → List ℕ → Type 0
SaysWhy (Refused reason) text = reason_text reason ≡ text
SaysWhy (Memory error) text = ⊥

-- The error says the fault, in its own texts. Out of memory says none, also where it is the source.
abbrev pub SaysFault : Error → Fault → Type 0
SaysFault (error.Unretrievable uri source) (fault.Unretrievable wanted text) =
    (string_bytes uri ≡ wanted) × SaysWhy source text
SaysFault (error.PointerToNowhere pointer) (fault.PointerToNowhere text) =
    string_bytes pointer ≡ text
SaysFault (error.InvalidPercentEncoding pointer) (fault.InvalidPercentEncoding text) =
    string_bytes pointer ≡ text
SaysFault (error.InvalidArrayIndex pointer index) (fault.InvalidArrayIndex text part) =
    (string_bytes pointer ≡ text) × (string_bytes index ≡ part)
SaysFault (error.NoSuchAnchor anchor) (fault.NoSuchAnchor text) = string_bytes anchor ≡ text
SaysFault (error.InvalidAnchor anchor) (fault.InvalidAnchor text) = string_bytes anchor ≡ text
SaysFault (error.InvalidUri refused) (fault.InvalidUri refusal) = SaysRefusal refused refusal
SaysFault (error.UnknownSpecification specification) (fault.UnknownSpecification text) =
    string_bytes specification ≡ text
SaysFault (error.CircularMetaschema uri) (fault.CircularMetaschema text) = string_bytes uri ≡ text
SaysFault (error.RetrievalLimit uri limit) (fault.RetrievalLimit wanted most) =
    (string_bytes uri ≡ wanted) × (limit ≡ most)
SaysFault other fault = ⊥

-- the error says the fault that the result is, or is out of memory
abbrev pub IsFaultOf : {A : Type 0} → Result A Fault → Error → Type 0
IsFaultOf meaning (error.Memory memory) = ⊤
IsFaultOf meaning error = (fault : Fault) × (meaning ≡ Err fault) × SaysFault error fault

-- the answer, in this view, is the one meant, or the error says the fault meant, or is out of memory
abbrev pub Gives : {A B : Type 0} → (B → A) → Result A Fault → Result B Error → Type 0
Gives view meaning (Ok answer) = meaning ≡ Ok (view answer)
Gives view meaning (Err error) = IsFaultOf meaning error

-- the error that a refused URI, or out of memory, becomes
abbrev pub of_uri_fault : UriFault → Error
of_uri_fault (uri_fault.Invalid refused) = error.InvalidUri refused
of_uri_fault (uri_fault.Memory memory) = error.Memory memory

-- an error is out of memory
abbrev pub IsMemory : Error → Type 0
IsMemory (error.Memory memory) = ⊤
IsMemory other = ⊥

-- what holds of an error that is no out of memory
abbrev pub UnlessMemory : Type 0 → Error → Type 0
UnlessMemory P (error.Memory memory) = ⊤
UnlessMemory P other = P

-- the error says the fault, or is out of memory
abbrev pub SaysOrMemory : Fault → Error → Type 0
SaysOrMemory fault error = UnlessMemory (SaysFault error fault) error
