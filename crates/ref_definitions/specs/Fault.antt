-- Why documents can't be prepared, or a reference can't be followed, with the text that is displayed.
use Rattle.std.specs.Prelude.{ℕ, List, ◌++◌, codes, decimal, Result, Ok, Err}
use Rattle.ref_uri.specs.Targets.{Refusal, refusal_text}

-- the faults; out of memory is none of them
pub data Fault : Type 0 where
  -- the URI that means no place, and why it could not be retrieved
  Unretrievable : List ℕ → List ℕ → Fault
  PointerToNowhere : List ℕ → Fault
  InvalidPercentEncoding : List ℕ → Fault
  -- the pointer, and the part of it that is no index
  InvalidArrayIndex : List ℕ → List ℕ → Fault
  NoSuchAnchor : List ℕ → Fault
  InvalidAnchor : List ℕ → Fault
  InvalidUri : Refusal → Fault
  -- the URI of a meta-schema that is neither known nor retrievable
  UnknownSpecification : List ℕ → Fault
  CircularMetaschema : List ℕ → Fault
  -- the URI that was wanted next, and the limit
  RetrievalLimit : List ℕ → ℕ → Fault

-- a refused URI as a fault
abbrev pub as_invalid_uri : {A : Type 0} → Result A Refusal → Result A Fault
as_invalid_uri (Ok x) = Ok x
as_invalid_uri (Err refusal) = Err (InvalidUri refusal)

-- what is displayed
abbrev pub fault_text : Fault → List ℕ
fault_text (Unretrievable uri source) =
    codes "Resource '" ++ uri ++ codes "' is not present in a registry and retrieving it failed: "
    ++ source
fault_text (PointerToNowhere pointer) = codes "Pointer '" ++ pointer ++ codes "' does not exist"
fault_text (InvalidPercentEncoding pointer) =
    codes "Invalid percent encoding in pointer '" ++ pointer
    ++ codes "': the decoded bytes do not represent valid UTF-8"
fault_text (InvalidArrayIndex pointer index) =
    codes "Failed to parse array index '" ++ index ++ codes "' in pointer '" ++ pointer ++ codes "'"
fault_text (NoSuchAnchor anchor) = codes "Anchor '" ++ anchor ++ codes "' does not exist"
fault_text (InvalidAnchor anchor) = codes "Anchor '" ++ anchor ++ codes "' is invalid"
fault_text (InvalidUri refusal) = refusal_text refusal
fault_text (UnknownSpecification specification) =
    codes "Unknown meta-schema: '" ++ specification
    ++ codes "'. Custom meta-schemas must be registered in the registry before use"
fault_text (CircularMetaschema uri) =
    codes "Circular meta-schema reference detected at '" ++ uri ++ codes "'"
fault_text (RetrievalLimit uri limit) =
    codes "Retrieval limit of " ++ decimal limit ++ codes " documents reached before '" ++ uri
    ++ codes "'"

-- nothing is retrieved once a registry is prepared
abbrev pub not_retrieved : List ℕ → Fault
not_retrieved uri =
    Unretrievable uri
    (codes "Retrieving external resources is not supported once the registry is populated")
