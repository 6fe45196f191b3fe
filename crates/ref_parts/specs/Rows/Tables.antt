-- Worked rows of sorted tables: the last value under a pair of texts, and the count of pairs.
use Rattle.std.specs.Prelude.{◌≡◌, ℕ, List, [], ◌∷◌, codes, Some, None}
use Rattle.ref_parts.specs.Table.{Entry, last_value, pair_count}

-- one pair twice, and another between
abbrev pub three : List (Entry ℕ)
three = (codes "b", [], 1) ∷ (codes "a", [], 2) ∷ (codes "b", [], 3) ∷ []

-- pairs that are one text when they are joined
abbrev pub beginnings : List (Entry ℕ)
beginnings = (codes "ab", [], 1) ∷ (codes "a", codes "b", 2) ∷ ([], codes "ab", 3) ∷ []

pub record TableRows : Type 0 where
  pub no_entries : last_value {V = ℕ} (codes "a") [] [] ≡ None
  pub no_pairs : pair_count {V = ℕ} [] ≡ 0
  pub last_of_two : last_value (codes "b") [] three ≡ Some 3
  pub between : last_value (codes "a") [] three ≡ Some 2
  pub other_first : last_value (codes "c") [] three ≡ None
  pub other_second : last_value (codes "b") (codes "b") three ≡ None
  pub two_pairs : pair_count three ≡ 2
  pub whole_first : last_value (codes "ab") [] beginnings ≡ Some 1
  pub both : last_value (codes "a") (codes "b") beginnings ≡ Some 2
  pub whole_second : last_value [] (codes "ab") beginnings ≡ Some 3
  pub beginning_alone : last_value (codes "a") [] beginnings ≡ None
  pub three_pairs : pair_count beginnings ≡ 3
