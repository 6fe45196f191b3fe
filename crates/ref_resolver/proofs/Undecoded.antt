-- A text without `%` stands for itself.
use Rattle.std.proofs.Common.{◌≡◌, ◌≢◌, ℕ, suc, ◌<◌, List, [], ◌∷◌, length, get_or, ap, ◌∙◌, arith}
use Rattle.percent_encoding.specs.Percent.{percent_decode}
use Rattle.percent_encoding.proofs.PercentLemmas.{percent_decode-nil, percent_decode_not_percent}

pub undecoded : (text : List ℕ) → ((i : ℕ) → i < length text → get_or text i 0 ≢ 37) → percent_decode text ≡ text
undecoded [] none = percent_decode-nil
undecoded (c ∷ text) none = percent_decode_not_percent c text (none 0 (omega arith)) ∙ ap (λ x. c ∷ x) (undecoded text (λ i less. none (suc i) (omega arith)))
