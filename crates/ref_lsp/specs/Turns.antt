-- Which of several open texts of a document counts.
use Rattle.std.specs.Prelude.{ℕ, ◌+◌, ◌==◌, List, [], ◌∷◌, false, Option, Some, None, if◌then◌else◌, nat_lt, option_map}
use Rattle.std.specs.Option.{option_map_or}
use Rattle.ref_lsp.specs.declared.desk.OpenText.{OpenText}

-- of two turns, each with the place of a text, the later one; the second, where they are the same
abbrev pub later : Option (ℕ × ℕ) → Option (ℕ × ℕ) → Option (ℕ × ℕ)
later None second = second
later (Some first) None = Some first
later (Some first) (Some second) = if nat_lt second.0 first.0 then Some first else Some second

-- the turn and the place of a text, where it is that of the document with a number
abbrev pub put_at : ℕ → ℕ → OpenText → Option (ℕ × ℕ)
put_at number place text =
    if option_map_or (λ own. own == number) text.number false then Some (text.turn, place) else None

-- the latest turn of a text of that document, with the text's place; places are counted from one on
abbrev pub latest : ℕ → ℕ → List OpenText → Option (ℕ × ℕ)
latest number place [] = None
latest number place (text ∷ rest) = later (put_at number place text) (latest number (place + 1) rest)

-- the place of the text that counts for a document: of its texts, that which was put last
abbrev pub last_put : ℕ → List OpenText → Option ℕ
last_put number texts = option_map (λ put. put.1) (latest number 0 texts)
