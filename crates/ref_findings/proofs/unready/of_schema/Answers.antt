use Rattle.std.proofs.Common.{◌≡◌, Some, sym, subst, rules}
use Rattle.std.specs.Prelude.{IfOk}
use Rattle.serde_json.specs.View.{view}
use Rattle.ref_definitions.specs.Wants.{schema_at}
use Rattle.ref_index.specs.Meanings.{meta_schema_uri}
use Rattle.ref_findings.specs.Unmet.{refused_problem}
use Rattle.ref_findings.specs.inner.Meanings.{IsMaybe}
use Rattle.ref_findings.proofs.unready.of_schema.Goals as goal

pub returns-in-Some : goal.returns-in-Some
returns-in-Some c =
    let there : schema_at (view c.args.value.now) ≡ Some (meta_schema_uri c.in-Some.text.now) = search rules in
    subst (λ o. IfOk c.of_dialect.result (IsMaybe (refused_problem o))) (sym there) c.of_dialect.ensures
