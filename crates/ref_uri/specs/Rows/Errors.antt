-- Worked rows of what errors say.
use Rattle.std.specs.Prelude.{◌≡◌, true, false, codes, Ok, Err, String, string_bytes}
use Rattle.std.specs.declared.alloc.AllocError.{AllocError}
use Rattle.std.specs.declared.alloc.Global.{Global}
use Rattle.ref_uri.specs.Targets.{parse_refusal, resolve_refusal}
use Rattle.ref_uri.specs.Errors.{parse_error_text, uri_parse_fault_text, resolve_error_text, resolve_fault_text, uri_error_text, uri_fault_text, SaysRefusal, IsFaultOf}
use Rattle.ref_uri.specs.declared.error.UriError.TheVariants.{Parse, Resolve}
use Rattle.ref_uri.specs.declared.error.UriFault.TheVariants as uri_fault
use Rattle.ref_uri.specs.declared.error.ParseError.TheVariants.{Syntax, NoScheme}
use Rattle.ref_uri.specs.declared.error.ResolveError.TheVariants.{BaseWithoutScheme}
use Rattle.ref_uri.specs.declared.error.ResolveFault.TheVariants as resolve_fault
use Rattle.ref_uri.specs.declared.error.UriParseFault.TheVariants as parse_fault

pub record ErrorRows : Type 0 where
  pub syntax : parse_error_text Syntax ≡ codes "not a URI reference of RFC 3986"
  pub no_scheme : parse_error_text NoScheme ≡ codes "no scheme"
  pub parse_fault_of_syntax : uri_parse_fault_text (parse_fault.Invalid NoScheme)
      ≡ codes "no scheme"
  pub parse_fault_of_memory : (e : AllocError)
      → uri_parse_fault_text (parse_fault.Memory e) ≡ codes "Out of memory"
  pub base_without_scheme : resolve_error_text BaseWithoutScheme ≡ codes "the base has no scheme"
  pub resolve_fault_of_base : resolve_fault_text (resolve_fault.Invalid BaseWithoutScheme)
      ≡ codes "the base has no scheme"
  pub resolve_fault_of_memory : (e : AllocError)
      → resolve_fault_text (resolve_fault.Memory e) ≡ codes "Out of memory"
  pub reference : (uri : String Global) → string_bytes uri ≡ codes "a b"
      → uri_error_text (Parse uri true Syntax)
      ≡ codes "Invalid URI reference 'a b': not a URI reference of RFC 3986"
  pub no_reference : (uri : String Global) → string_bytes uri ≡ codes "/a"
      → uri_error_text (Parse uri false NoScheme) ≡ codes "Invalid URI '/a': no scheme"
  pub unresolved_reference : (uri base : String Global) → string_bytes uri ≡ codes "b"
      → string_bytes base ≡ codes "/a"
      → uri_error_text (Resolve uri base BaseWithoutScheme)
      ≡ codes "Failed to resolve 'b' against '/a': the base has no scheme"
  pub fault_of_error : (uri : String Global) → string_bytes uri ≡ codes "a b"
      → uri_fault_text (uri_fault.Invalid (Parse uri true Syntax))
      ≡ codes "Invalid URI reference 'a b': not a URI reference of RFC 3986"
  pub fault_of_memory : (e : AllocError)
      → uri_fault_text (uri_fault.Memory e) ≡ codes "Out of memory"
  pub says : (uri : String Global) → string_bytes uri ≡ codes "a b"
      → SaysRefusal (Parse uri true Syntax) (parse_refusal (codes "a b"))
  pub says_no_other : (uri : String Global)
      → SaysRefusal (Parse uri true Syntax) (resolve_refusal (codes "b") (codes "/a")) → ⊥
  pub memory_in_any_case : (e : AllocError) → IsFaultOf (Ok (codes "a:b")) (uri_fault.Memory e)
  pub fault_of_a_refusal : (uri : String Global) → string_bytes uri ≡ codes "a b"
      → IsFaultOf (Err (parse_refusal (codes "a b"))) (uri_fault.Invalid (Parse uri true Syntax))
