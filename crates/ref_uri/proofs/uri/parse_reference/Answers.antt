use Rattle.std.proofs.Common.{rules}
use Rattle.ref_uri.proofs.uri.parse_reference.Goals as goal

pub returns-in_ok-uri-in-Err-clause-refused : goal.returns-in_ok-uri-in-Err-clause-refused
returns-in_ok-uri-in-Err-clause-refused c = search rules
