-- The texts of what is refused.
use Rattle.std.specs.Prelude.{◌≡◌, ℕ, List, ◌++◌, true, ⊤, codes, string_bytes, Result, Ok, Err, if◌then◌else◌}
use Rattle.ref_uri.specs.Targets.{Refusal, parse_refusal, resolve_refusal}
use Rattle.ref_uri.specs.declared.error.UriError.{UriError}
use Rattle.ref_uri.specs.declared.error.UriError.TheVariants.{Parse, Resolve}
use Rattle.ref_uri.specs.declared.error.UriFault.{UriFault}
use Rattle.ref_uri.specs.declared.error.UriFault.TheVariants as uri_fault
use Rattle.ref_uri.specs.declared.error.ParseError.{ParseError}
use Rattle.ref_uri.specs.declared.error.ParseError.TheVariants.{Syntax, NoScheme}
use Rattle.ref_uri.specs.declared.error.ResolveError.{ResolveError}
use Rattle.ref_uri.specs.declared.error.ResolveError.TheVariants.{BaseWithoutScheme}
use Rattle.ref_uri.specs.declared.error.ResolveFault.{ResolveFault}
use Rattle.ref_uri.specs.declared.error.ResolveFault.TheVariants as resolve_fault
use Rattle.ref_uri.specs.declared.error.UriParseFault.{UriParseFault}
use Rattle.ref_uri.specs.declared.error.UriParseFault.TheVariants.{Invalid, Memory}

-- what is displayed of a parse error
abbrev pub parse_error_text : ParseError → List ℕ
parse_error_text Syntax = codes "not a URI reference of RFC 3986"
parse_error_text NoScheme = codes "no scheme"

-- of a parse error, or of being out of memory
abbrev pub uri_parse_fault_text : UriParseFault → List ℕ
uri_parse_fault_text (Invalid error) = parse_error_text error
uri_parse_fault_text (Memory error) = codes "Out of memory"

-- of a base without scheme
abbrev pub resolve_error_text : ResolveError → List ℕ
resolve_error_text BaseWithoutScheme = codes "the base has no scheme"

-- of that, or of being out of memory
abbrev pub resolve_fault_text : ResolveFault → List ℕ
resolve_fault_text (resolve_fault.Invalid error) = resolve_error_text error
resolve_fault_text (resolve_fault.Memory error) = codes "Out of memory"

-- of a text that means no URI
abbrev pub uri_error_text : UriError → List ℕ
uri_error_text (Parse uri is_reference error) =
    codes "Invalid URI " ++ (if is_reference then codes "reference '" else codes "'")
    ++ string_bytes uri ++ codes "': " ++ parse_error_text error
uri_error_text (Resolve uri base error) =
    codes "Failed to resolve '" ++ string_bytes uri ++ codes "' against '" ++ string_bytes base
    ++ codes "': " ++ resolve_error_text error

-- of that, or of being out of memory
abbrev pub uri_fault_text : UriFault → List ℕ
uri_fault_text (uri_fault.Invalid error) = uri_error_text error
uri_fault_text (uri_fault.Memory error) = codes "Out of memory"

-- the error says what the definition refuses
abbrev pub SaysRefusal : UriError → Refusal → Type 0
SaysRefusal (Parse uri is_reference error) (parse_refusal text) =
    (string_bytes uri ≡ text) × (is_reference ≡ true) × (error ≡ Syntax)
SaysRefusal (Parse uri is_reference error) (resolve_refusal text against) = ⊥
SaysRefusal (Resolve uri base error) (parse_refusal text) = ⊥
SaysRefusal (Resolve uri base error) (resolve_refusal text against) =
    (string_bytes uri ≡ text) × (string_bytes base ≡ against) × (error ≡ BaseWithoutScheme)

-- the fault is that of the definition, or out of memory
abbrev pub IsFaultOf : Result (List ℕ) Refusal → UriFault → Type 0
IsFaultOf meaning (uri_fault.Invalid error) =
    (refusal : Refusal) × (meaning ≡ Err refusal) × SaysRefusal error refusal
IsFaultOf meaning (uri_fault.Memory error) = ⊤

-- what a call returns is what the definition gives, or that memory ran out
abbrev pub Gives : Result (List ℕ) Refusal → Result (List ℕ) UriFault → Type 0
Gives meaning (Ok uri) = meaning ≡ Ok uri
Gives meaning (Err fault) = IsFaultOf meaning fault
