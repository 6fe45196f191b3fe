use Rattle.std.proofs.Common.{◌≡◌, ℕ, List, [], false, IfOk, refl, sym, subst}
use Rattle.ref_yaml.specs.Flow.{folded}
use Rattle.ref_yaml.proofs.OneLine.{without_returns}
use Rattle.ref_yaml.proofs.text.folded_lines.Goals as goal

pub returns-then-is_without_returns : goal.returns-then-is_without_returns
returns-then-is_without_returns c = record {
  value = subst (λ (xs : List ℕ). IfOk c.folded.result (λ v. v.items ≡ folded c.args.escapes false [] 0 false xs))
      (sym (without_returns c.args.source.now (c.if-is_without_returns.ensures.value refl))) c.folded.ensures.value;
}
