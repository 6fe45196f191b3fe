-- What is edited of a scalar of several lines: the edit of an item of completion is on one line (Language Server Protocol 3.17, "CompletionItem").
use Rattle.std.specs.Prelude.{ℕ, ◌+◌, ◌==◌, ◌&&◌, ◌||◌, Bool, List, [], ◌∷◌, if◌then◌else◌}

-- a blank, and one that may end a line
abbrev pub is_blank : ℕ → Bool
is_blank b = b == 32 || b == 9

abbrev pub is_blank_at_end : ℕ → Bool
is_blank_at_end b = is_blank b || b == 13

-- how many bytes a text has on its last line, after the blanks that this begins with; so many were there before it
abbrev pub since_line : ℕ → List ℕ → ℕ
since_line n [] = n
since_line n (b ∷ text) =
    if b == 10 || (n == 0 && is_blank b) then since_line 0 text else since_line (n + 1) text

abbrev pub end_with : ℕ → ℕ → ℕ → ℕ
end_with passed end b = if is_blank_at_end b then end else passed + 1

-- how many bytes a text has on its first line, before the blanks that this ends with; so many were passed before it, up to this end
abbrev pub up_to_line : ℕ → ℕ → List ℕ → ℕ
up_to_line passed end [] = end
up_to_line passed end (b ∷ text) =
    if b == 10 then end else up_to_line (passed + 1) (end_with passed end b) text
