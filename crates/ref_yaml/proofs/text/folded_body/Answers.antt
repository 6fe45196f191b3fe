use Rattle.std.proofs.Common.{◌≡◌, ℕ, List, IfOk, refl, sym, subst}
use Rattle.ref_yaml.specs.Block.{folded_text}
use Rattle.ref_yaml.proofs.OneLine.{without_returns}
use Rattle.ref_yaml.proofs.text.folded_body.Goals as goal

pub returns-then-is_without_returns : goal.returns-then-is_without_returns
returns-then-is_without_returns c = record {
  value = subst (λ (xs : List ℕ). IfOk c.folded_text.result (λ v. v.items ≡ folded_text c.args.chomping c.args.indent xs))
      (sym (without_returns c.args.body.now (c.if-is_without_returns.ensures.value refl))) c.folded_text.ensures.value;
}
