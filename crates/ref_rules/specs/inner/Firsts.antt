-- The first bytes of the keywords that drafts don't have, and others have, for private clauses.
use Rattle.std.specs.Prelude.{ℕ, Bool, [], ◌∷◌, nat_eq}
use Rattle.std.specs.List.{list_any}

-- whether some keyword that a draft doesn't have begins with this byte
abbrev pub is_first : ℕ → Bool
is_first first = list_any (nat_eq first) (36 ∷ 99 ∷ 100 ∷ 101 ∷ 105 ∷ 109 ∷ 112 ∷ 116 ∷ 117 ∷ [])
