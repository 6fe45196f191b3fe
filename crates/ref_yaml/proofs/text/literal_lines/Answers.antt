use Rattle.std.proofs.Common.{◌≡◌, ℕ, List, IfOk, refl, sym, subst}
use Rattle.ref_yaml.specs.Block.{literal_text}
use Rattle.ref_yaml.proofs.OneLine.{without_returns}
use Rattle.ref_yaml.proofs.text.literal_lines.Goals as goal

pub returns-then-is_without_returns : goal.returns-then-is_without_returns
returns-then-is_without_returns c = record {
  value = subst (λ (xs : List ℕ). IfOk c.literal_text.result (λ v. v.items ≡ literal_text c.args.chomping c.args.indent xs))
      (sym (without_returns c.args.body.now (c.if-is_without_returns.ensures.value refl))) c.literal_text.ensures.value;
}
