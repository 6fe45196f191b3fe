-- The table of flags, held against each definition at each of the 256 bytes.
use Rattle.std.proofs.Common.{◌≡◌, ℕ, ◌<◌, Bool, true, not, eqb, bit_and, get_or, List}
use Rattle.std.proofs.lemmas.Bool.{agree_below, agree_below_at}

abbrev pub has_flag : List ℕ → ℕ → ℕ → Bool
has_flag table flag b = not (eqb (bit_and (get_or table b 0) flag) 0)

pub from_table : (table : List ℕ) (flag : ℕ) (test : ℕ → Bool) (b : ℕ) → b < 256 → agree_below (has_flag table flag) test 256 ≡ true → has_flag table flag b ≡ test b
from_table table flag test b lt h = agree_below_at (has_flag table flag) test 256 b h lt
