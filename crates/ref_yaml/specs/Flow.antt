-- What the text of a scalar on several lines is, by YAML 1.2.2. Texts are their bytes.
use Rattle.std.specs.Prelude.{ℕ, ◌+◌, ◌-◌, ◌==◌, ◌&&◌, ◌||◌, Bool, true, false, not, zero, suc, if◌then◌else◌, List, [], ◌∷◌, ◌++◌}

-- Line breaks as line feeds (5.4): a carriage return is one, together with a line feed after it. The flag says whether a carriage return is before.
abbrev pub with_feeds : Bool → List ℕ → List ℕ
with_feeds was_return [] = []
with_feeds was_return (b ∷ t) =
    if b == 13 then 10 ∷ with_feeds true t
    else if was_return && (b == 10) then with_feeds false t
    else b ∷ with_feeds false t

-- In single quotes two quotes are one (7.3.2). The flag says whether the first of two is before.
abbrev pub with_quotes : Bool → List ℕ → List ℕ
with_quotes was_quote [] = []
with_quotes was_quote (b ∷ t) =
    if was_quote && (b == 39) then with_quotes false t
    else b ∷ with_quotes (b == 39) t

-- so many line feeds
abbrev pub feeds : ℕ → List ℕ
feeds zero = []
feeds (suc n) = 10 ∷ feeds n

-- What line breaks become between two lines that are folded (6.5): one is a space, and of more each but the first stays. After one that is escaped each stays.
abbrev pub between : ℕ → Bool → List ℕ
between breaks is_joined =
    if is_joined then feeds breaks
    else if breaks == 1 then 32 ∷ []
    else feeds (breaks - 1)

-- a space or a tab (5.5)
abbrev pub is_white : ℕ → Bool
is_white b = (b == 32) || (b == 9)

-- Folded lines (6.5, 7.3): white space around line breaks goes. With `escapes` a backslash keeps what is after it, and a line break after it is
-- nothing (7.3.1). `after` says whether a backslash is before, `white` is the white space since the last other character, and `breaks` the line
-- breaks since then, the first of which was escaped where `joined` says so.
abbrev pub folded : Bool → Bool → List ℕ → ℕ → Bool → List ℕ → List ℕ
folded escapes after white breaks joined [] = if after then 92 ∷ [] else between breaks joined ++ white
folded escapes after white breaks joined (b ∷ t) =
    if after then
    (if b == 10 then folded escapes false white breaks true t
    else 92 ∷ b ∷ folded escapes false white breaks joined t)
    else if b == 10 then folded escapes false [] (breaks + 1) joined t
    else if is_white b then
    (if (breaks == 0) && not joined then folded escapes false (white ++ b ∷ []) breaks joined t
    else folded escapes false white breaks joined t)
    else (between breaks joined ++ white) ++
    (if escapes && (b == 92) then folded escapes true [] 0 false t
    else b ∷ folded escapes false [] 0 false t)
