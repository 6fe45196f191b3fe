-- Rows of failed calls, and literal lines with a service for rows that compute.
use Rattle.std.specs.Prelude.{◌≡◌, ℕ, ◌+◌, List, codes}
use Rattle.ref_streams.specs.Bytes.{most, HasFailed}

-- between which counts a call failed
pub record FailureRows : Type 0 where
  pub one_more : HasFailed 0 1
  pub as_before : ¬ (HasFailed 1 1)
  pub fewer : ¬ (HasFailed 2 1)
  pub greatest : HasFailed most most

-- two lines
abbrev pub first : List ℕ
first = codes "a"

abbrev pub second : List ℕ
second = codes "b"

-- what a service may answer that counts lines and gives each back
abbrev pub counts : ℕ → List ℕ → ℕ → List ℕ → Type 0
counts count line next text = (next ≡ count + 1) × (text ≡ line)
