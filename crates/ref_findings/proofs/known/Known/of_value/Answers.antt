use Rattle.std.proofs.Common.{◌≡◌, None, Some, ap, rules}
use Rattle.std.specs.Option.{option_map_or}
use Rattle.serde_json.specs.Find.{as_str}
use Rattle.serde_json.specs.View.{view}
use Rattle.ref_findings.specs.Findings.{NotAText, reference_problem}
use Rattle.ref_findings.specs.inner.Seen.{site_of, known_in}
use Rattle.ref_findings.proofs.known.Known.of_value.Goals as goal

pub returns-in_default : goal.returns-in_default
returns-in_default c =
    let none : as_str (view c.args.value.now) ≡ None = search rules in
    record { value = (NotAText, ap (λ o. option_map_or (reference_problem (known_in c.args.self.now) (site_of c.args.site.now)) o (Some NotAText)) none, tt) }
