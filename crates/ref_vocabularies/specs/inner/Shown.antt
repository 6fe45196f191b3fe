-- How the text of a set is written.
use Rattle.std.specs.Prelude.{ℕ, ◌==◌, ◌++◌, Bool, true, false, List, [], ◌∷◌, map, filter, take, codes, if◌then◌else◌}
use Rattle.std.specs.Int.{bit_at}
use Rattle.std.specs.List.{join_by}
use Rattle.ref_vocabularies.specs.Vocabularies.{all_known, bit, name, quoted_text}

-- a text in quotes, after a separator where it is not the first
abbrev pub item : Bool → List ℕ → List ℕ
item is_first text = (if is_first then [] else codes ", ") ++ quoted_text text

-- the names of those of the first few known vocabularies whose bits are set
abbrev pub names_before : ℕ → ℕ → List (List ℕ)
names_before bits count = map name (filter (λ k. bit_at bits (bit k) == 1) (take count all_known))

-- the text of a set as far as these texts
abbrev pub opened_text : List (List ℕ) → List ℕ
opened_text texts = codes "[" ++ join_by quoted_text (codes ", ") texts

abbrev pub is_nil : List (List ℕ) → Bool
is_nil [] = true
is_nil (x ∷ xs) = false
