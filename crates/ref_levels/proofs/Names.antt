-- Names that are the same.
use Rattle.std.proofs.Common.{◌≡◌, ℕ, List, true, bytes_eq}
use Rattle.std.proofs.lemmas.Slice.Eq.{bytes_eq-Decides}

pub same_bytes : (a b : List ℕ) → bytes_eq a b ≡ true → a ≡ b
same_bytes a b same = (bytes_eq-Decides a b).0 same
