-- The names that a configuration knows, as docs/CONFIGURATION.md has them.
use Rattle.std.specs.Prelude.{ℕ, zero, suc, List, [], ◌∷◌, ◌++◌, length, Bool, codes, bytes_eq}
use Rattle.std.specs.List.{list_any}

-- the members of the whole
abbrev pub top_names : List (List ℕ)
top_names =
    codes "paths" ∷ codes "with" ∷ codes "exclude" ∷ codes "gitignore" ∷ codes "yaml" ∷ codes "base"
    ∷ codes "draft" ∷ codes "level" ∷ codes "max-warnings" ∷ codes "map" ∷ codes "rules"
    ∷ codes "override" ∷ []

-- the members of a table [[override]]
abbrev pub override_names : List (List ℕ)
override_names = codes "files" ∷ codes "rules" ∷ []

-- drafts
abbrev pub draft_names : List (List ℕ)
draft_names =
    codes "4" ∷ codes "6" ∷ codes "7" ∷ codes "2019-09" ∷ codes "2020-12" ∷ []

-- the levels from which on findings are listed
abbrev pub level_names : List (List ℕ)
level_names = codes "error" ∷ codes "warning" ∷ codes "note" ∷ []

-- the levels of rules
abbrev pub rule_level_names : List (List ℕ)
rule_level_names = codes "error" ∷ codes "warning" ∷ codes "note" ∷ codes "off" ∷ []

-- whether a text is one of some names
abbrev pub is_among : List (List ℕ) → List ℕ → Bool
is_among names name = list_any (λ known. bytes_eq known name) names

-- what is between a name and those after it, of which there are so many
abbrev pub after_name : ℕ → List ℕ
after_name zero = []
after_name (suc zero) = codes " or "
after_name (suc (suc n)) = codes ", "

-- names as a sentence lists them: `a`, `a or b`, `a, b or c`
abbrev pub listed : List (List ℕ) → List ℕ
listed [] = []
listed (a ∷ names) = a ++ after_name (length names) ++ listed names
