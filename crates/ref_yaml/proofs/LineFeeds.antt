-- Line feeds, one at a time.
use Rattle.std.proofs.Common.{◌≡◌, ℕ, ◌+◌, ◌-◌, ◌<◌, suc, ◌∷◌, ap, arith}
use Rattle.ref_yaml.specs.Flow.{feeds}

pub feeds_more : (n i : ℕ) → i < n → feeds (n - i) ≡ 10 ∷ feeds (n - (i + 1))
feeds_more n i lt = let e : n - i ≡ suc (n - (i + 1)) = omega arith in ap feeds e
