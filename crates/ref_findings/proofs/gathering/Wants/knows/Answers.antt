use Rattle.std.proofs.Common.{◌≡◌, ◌∙◌, bytes_eq, is_some, rules}
use Rattle.std.specs.HashMap.{get}
use Rattle.ref_findings.proofs.gathering.Wants.knows.Goals as goal

pub returns : goal.returns
returns c =
    let is : c.contains_key.result ≡ is_some (get bytes_eq c.args.self.now.met c.args.uri.now) = search rules in
    record { value = λ uris met. is ∙ met c.args.uri.now }
