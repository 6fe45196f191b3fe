use Rattle.std.proofs.Common.{◌≡◌, ◌++◌, string_bytes}
use Rattle.ref_report.proofs.Scopes.{uris}
use Rattle.ref_report.proofs.report.push_scope.Given as goal

abbrev pub invariant-loop-uri : goal.invariant-loop-uri
invariant-loop-uri l = string_bytes l.text ++ uris l.uri-iterator ≡ string_bytes l.initial.text ++ uris l.scope
