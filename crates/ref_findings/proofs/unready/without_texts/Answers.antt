use Rattle.std.proofs.Common.{◌≡◌, ◌∙◌, map, flat_map, ap, subst, rules}
use Rattle.std.specs.Prelude.{IfOk}
use Rattle.serde_json.specs.View.{view}
use Rattle.ref_findings.specs.Mending.{with_nulls}
use Rattle.ref_findings.specs.Unmet.{text_path}
use Rattle.ref_findings.specs.inner.Seen.{lent_path, own_path}
use Rattle.ref_findings.proofs.Listed.{paths_said}
use Rattle.ref_findings.proofs.unready.without_texts.Goals as goal

pub returns : goal.returns
returns c = record {
  value = λ fs zip.
      let own : c.as_slice.result.now ≡ c.in_ok-own.own.items = search rules in
      let lent : c.as_slice-2.result.now ≡ c.in_ok-paths.paths.items = search rules in
      let said : map lent_path c.as_slice-2.result.now ≡ flat_map text_path fs =
      ap (map lent_path) lent ∙ c.in_ok-paths.ensures ∙ ap (map own_path) own ∙ c.in_ok-own.ensures ∙ paths_said c.args.findings.now fs zip in
      subst (λ ps. IfOk c.with_nulls.result (λ v. view v ≡ with_nulls ps (view c.args.value.now))) said c.with_nulls.ensures;
}
