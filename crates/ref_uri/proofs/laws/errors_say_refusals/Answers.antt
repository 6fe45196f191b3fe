use Rattle.std.proofs.Common.{◌≡◌, ◌++◌, codes, append_assoc}
use Rattle.ref_uri.specs.Errors.{uri_error_text, SaysRefusal}
use Rattle.ref_uri.specs.Targets.{Refusal, parse_refusal, resolve_refusal, refusal_text}
use Rattle.ref_uri.specs.declared.error.UriError.{UriError}
use Rattle.ref_uri.specs.declared.error.UriError.TheVariants.{Parse, Resolve}
use Rattle.ref_uri.proofs.laws.errors_say_refusals.Goals as goal

says : (error : UriError) (refusal : Refusal) → SaysRefusal error refusal → uri_error_text error ≡ refusal_text refusal
says (Parse uri is_reference error) (parse_refusal text) h = rw (h.0, h.1, h.2) (append_assoc (codes "Invalid URI reference '" ++ text) (codes "': ") (codes "not a URI reference of RFC 3986"))
says (Parse uri is_reference error) (resolve_refusal text base) h = absurd h
says (Resolve uri base error) (parse_refusal text) h = absurd h
says (Resolve uri base error) (resolve_refusal text against) h = rw (h.0, h.1, h.2) (append_assoc (codes "Failed to resolve '" ++ text ++ codes "' against '" ++ against) (codes "': ") (codes "the base has no scheme"))

pub returns : goal.returns
returns c = record { law = says }
