use Rattle.std.proofs.Common.{◌≡◌, ℕ, ◌<◌, inl, inr, refl, arith}
use Rattle.ref_streams.specs.Bytes.{most, HasFailed}
use Rattle.ref_streams.proofs.laws.failure_rows.Goals as goal

none : (before after : ℕ) → ¬ (before < after) → ¬ (after ≡ most) → ¬ (HasFailed before after)
none before after fewer other (inl less) = fewer less
none before after fewer other (inr same) = other same

pub returns : goal.returns
returns c = record {
  rows = record {
    one_more = inl (omega arith);
    as_before = none 1 1 (λ less. omega (arith, less)) (λ same. omega (arith, same));
    fewer = none 2 1 (λ less. omega (arith, less)) (λ same. omega (arith, same));
    greatest = inr refl;
  };
}
