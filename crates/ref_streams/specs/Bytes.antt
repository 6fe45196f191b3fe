-- What a source and a sink of bytes say of their calls.
use Rattle.std.specs.Prelude.{◌≡◌, ℕ, ◌+◌, ◌-◌, ◌^◌, ◌<◌, ◌⊎◌, min, List, ◌++◌, Option, None, Some, Result, Ok, Err}

-- the greatest count of failed calls
abbrev pub most : ℕ
most = 2 ^ 64 - 1

-- the count after one more failed call, which stays at its greatest value
abbrev pub one_more : ℕ → ℕ
one_more n = min (n + 1) most

-- the count after a call: a failed one is counted
abbrev pub count_after : {T E : Type 0} → Result T E → ℕ → ℕ
count_after (Ok x) n = n
count_after (Err e) n = one_more n

-- a call failed between the two counts; a count at its greatest value no longer grows, so there this counts as met
abbrev pub HasFailed : ℕ → ℕ → Type 0
HasFailed before after = (before < after) ⊎ (after ≡ most)

-- known bytes grow by a beginning of these
abbrev pub AppendsFront : Option (List ℕ) → Option (List ℕ) → List ℕ → Type 0
AppendsFront None new bytes = Unit {0}
AppendsFront (Some old) None bytes = ⊥
AppendsFront (Some old) (Some new) bytes =
    (front rest : List ℕ) × (bytes ≡ front ++ rest) × (new ≡ old ++ front)
