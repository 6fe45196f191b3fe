-- Worked rows of what errors say.
use Rattle.std.specs.Prelude.{◌≡◌, true, codes, List, ℕ, Ok, Err, String, string_bytes}
use Rattle.std.specs.declared.alloc.AllocError.{AllocError}
use Rattle.std.specs.declared.alloc.Global.{Global}
use Rattle.ref_uri.specs.Targets.{parse_refusal}
use Rattle.ref_uri.specs.declared.error.UriError.TheVariants.{Parse}
use Rattle.ref_uri.specs.declared.error.ParseError.TheVariants.{Syntax}
use Rattle.ref_definitions.specs.Fault as fault
use Rattle.ref_error.specs.Errors.{reason_text, retrieve_error_text, error_text, IsForReason, SaysFault, IsFaultOf, Gives, IsMemory, SaysOrMemory}
use Rattle.ref_error.specs.Retrieving.{IfRefused}
use Rattle.ref_error.specs.declared.error.Reason.TheVariants.{NotFetched, NoDocument, NotSupported, Text}
use Rattle.ref_error.specs.declared.error.RetrieveError.TheVariants as retrieve_error
use Rattle.ref_error.specs.declared.error.Error.TheVariants.{Unretrievable, PointerToNowhere, InvalidPercentEncoding, InvalidArrayIndex, NoSuchAnchor, InvalidAnchor, InvalidUri, UnknownSpecification, CircularMetaschema, RetrievalLimit, Memory}

-- the text of each error, for texts and counts that stand for any
pub record TextRows : Type 0 where
  pub not_fetched : reason_text NotFetched ≡ codes "Default retriever does not fetch resources"
  pub no_document : reason_text NoDocument ≡ codes "no document under this URI"
  pub not_supported : reason_text NotSupported
      ≡ codes "Retrieving external resources is not supported once the registry is populated"
  pub text : (t : String Global) → string_bytes t ≡ codes "status 404"
      → reason_text (Text t) ≡ codes "status 404"
  pub source_of_memory : (e : AllocError)
      → retrieve_error_text (retrieve_error.Memory e) ≡ codes "Out of memory"
  pub unretrievable : (uri : String Global) → string_bytes uri ≡ codes "http://a/b"
      → error_text (Unretrievable uri (retrieve_error.Refused NotFetched))
      ≡ codes "Resource 'http://a/b' is not present in a registry and retrieving it failed: Default retriever does not fetch resources"
  pub unretrievable_for_memory : (uri : String Global) (e : AllocError)
      → string_bytes uri ≡ codes "http://a/b"
      → error_text (Unretrievable uri (retrieve_error.Memory e))
      ≡ codes "Resource 'http://a/b' is not present in a registry and retrieving it failed: Out of memory"
  pub pointer : (p : String Global) → string_bytes p ≡ codes "/a/0"
      → error_text (PointerToNowhere p) ≡ codes "Pointer '/a/0' does not exist"
  pub encoding : (p : String Global) → string_bytes p ≡ codes "/%FF"
      → error_text (InvalidPercentEncoding p)
      ≡ codes "Invalid percent encoding in pointer '/%FF': the decoded bytes do not represent valid UTF-8"
  pub index : (p i : String Global) → string_bytes p ≡ codes "/a/01" → string_bytes i ≡ codes "01"
      → error_text (InvalidArrayIndex p i)
      ≡ codes "Failed to parse array index '01' in pointer '/a/01'"
  pub no_anchor : (a : String Global) → string_bytes a ≡ codes "x"
      → error_text (NoSuchAnchor a) ≡ codes "Anchor 'x' does not exist"
  pub bad_anchor : (a : String Global) → string_bytes a ≡ codes "x/y"
      → error_text (InvalidAnchor a) ≡ codes "Anchor 'x/y' is invalid"
  pub uri : (u : String Global) → string_bytes u ≡ codes "a b"
      → error_text (InvalidUri (Parse u true Syntax))
      ≡ codes "Invalid URI reference 'a b': not a URI reference of RFC 3986"
  pub specification : (u : String Global) → string_bytes u ≡ codes "json-schema:///m"
      → error_text (UnknownSpecification u)
      ≡ codes "Unknown meta-schema: 'json-schema:///m'. Custom meta-schemas must be registered in the registry before use"
  pub circle : (u : String Global) → string_bytes u ≡ codes "json-schema:///m"
      → error_text (CircularMetaschema u)
      ≡ codes "Circular meta-schema reference detected at 'json-schema:///m'"
  pub limit : (u : String Global) → string_bytes u ≡ codes "http://a/b"
      → error_text (RetrievalLimit u 10000)
      ≡ codes "Retrieval limit of 10000 documents reached before 'http://a/b'"
  pub memory : (e : AllocError) → error_text (Memory e) ≡ codes "Out of memory"

-- which faults an error says
pub record FaultRows : Type 0 where
  pub says : (p : String Global) → string_bytes p ≡ codes "/a"
      → SaysFault (PointerToNowhere p) (fault.PointerToNowhere (codes "/a"))
  pub says_no_other_text : (p : String Global) → string_bytes p ≡ codes "/a"
      → SaysFault (PointerToNowhere p) (fault.PointerToNowhere (codes "")) → ⊥
  pub says_no_other_kind : (p : String Global) → string_bytes p ≡ codes "/a"
      → SaysFault (NoSuchAnchor p) (fault.InvalidAnchor (codes "/a")) → ⊥
  pub says_in_order : (p i : String Global) → string_bytes p ≡ codes "/01"
      → string_bytes i ≡ codes "01"
      → SaysFault (InvalidArrayIndex p i) (fault.InvalidArrayIndex (codes "/01") (codes "01"))
  pub memory_says_none : (e : AllocError) (f : fault.Fault) → SaysFault (Memory e) f → ⊥
  pub source_of_memory_says_none : (uri : String Global) (e : AllocError) (wanted text : List ℕ)
      → SaysFault (Unretrievable uri (retrieve_error.Memory e)) (fault.Unretrievable wanted text)
      → ⊥
  pub memory_in_any_case : (e : AllocError) → IsFaultOf (Ok (codes "a")) (Memory e)
  pub no_fault_of_an_answer : (p : String Global) → IsFaultOf (Ok (codes "a")) (NoSuchAnchor p) → ⊥
  pub fault_of_a_refusal : (u : String Global) → string_bytes u ≡ codes "a b"
      → IsFaultOf {A = List ℕ} (Err (fault.InvalidUri (parse_refusal (codes "a b"))))
      (InvalidUri (Parse u true Syntax))
  pub gives_the_answer : (t : String Global) → string_bytes t ≡ codes "a"
      → Gives string_bytes (Ok (codes "a")) (Ok t)
  pub gives_no_other_answer : (t : String Global) → string_bytes t ≡ codes "a"
      → Gives string_bytes (Ok (codes "")) (Ok t) → ⊥
  pub gives_the_fault : (p : String Global) → string_bytes p ≡ codes "/a"
      → Gives {B = String Global} string_bytes (Err (fault.PointerToNowhere (codes "/a")))
      (Err (PointerToNowhere p))
  pub gives_no_other_fault : (p : String Global)
      → Gives {B = String Global} string_bytes (Err (fault.InvalidAnchor (codes "/a")))
      (Err (NoSuchAnchor p))
      → ⊥
  pub for_its_reason : (uri : String Global)
      → IsForReason (Unretrievable uri (retrieve_error.Refused NotFetched)) NotFetched
  pub for_no_other_reason : (uri : String Global)
      → IsForReason (Unretrievable uri (retrieve_error.Refused NotFetched)) NotSupported → ⊥
  pub for_memory_no_reason : (uri : String Global) (e : AllocError)
      → IsForReason (Unretrievable uri (retrieve_error.Memory e)) NotFetched → ⊥
  pub without_a_source : (u : String Global) → IsForReason (UnknownSpecification u) NotFetched
  pub refused_with_its_text : IfRefused (retrieve_error.Refused NoDocument)
      (λ text. text ≡ codes "no document under this URI")
  pub refused_with_no_other_text : IfRefused (retrieve_error.Refused NoDocument)
      (λ text. text ≡ codes "")
      → ⊥
  pub memory_refuses_nothing : (e : AllocError)
      → IfRefused (retrieve_error.Memory e) (λ text. text ≡ codes "")
  pub memory : (e : AllocError) → IsMemory (Memory e)
  pub no_memory : (p : String Global) → IsMemory (NoSuchAnchor p) → ⊥
  pub says_or_memory : (e : AllocError) (f : fault.Fault) → SaysOrMemory f (Memory e)
  pub says_another : (p : String Global) → string_bytes p ≡ codes "/a"
      → SaysOrMemory (fault.PointerToNowhere (codes "")) (PointerToNowhere p) → ⊥
