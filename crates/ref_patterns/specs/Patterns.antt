-- Which paths a pattern matches. Paths are their bytes; a slash, 47, ends the name of a folder.
use Rattle.std.specs.Prelude.{◌&&◌, ◌||◌, ◌==◌, ℕ, List, [], ◌∷◌, Bool, true, false, not, nat_lt, nat_le, if◌then◌else◌, map, Vec, zero, suc, ◌-◌, ◌++◌, length}
use Rattle.std.specs.Global.{Global}
use Rattle.std.specs.List.{list_any}
use Rattle.ref_patterns.specs.declared.pattern.Pattern.{Pattern}
use Rattle.ref_patterns.specs.declared.pattern.Part.{Part}
use Rattle.ref_patterns.specs.declared.pattern.Part.TheVariants.{Byte, Character, Name, Folders}

-- whether a byte goes on with a character (RFC 3629, 3)
abbrev pub goes_on : ℕ → Bool
goes_on b = nat_le 128 b && nat_lt b 192

-- what is after the bytes that go on with a character
abbrev pub after_character : List ℕ → List ℕ
after_character [] = []
after_character (b ∷ s) = if goes_on b then after_character s else b ∷ s

-- whether a test holds of a text, or of what is left after some bytes of its name
abbrev pub within_name : (List ℕ → Bool) → List ℕ → Bool
within_name p [] = p []
within_name p (b ∷ s) = p (b ∷ s) || (not (b == 47) && within_name p s)

-- whether a test holds of what is after some slash of a text
abbrev pub after_slash : (List ℕ → Bool) → List ℕ → Bool
after_slash p [] = false
after_slash p (b ∷ s) = ((b == 47) && p s) || after_slash p s

-- whether a path is what a pattern says: a byte is itself, ? is a character but a slash, * is any of them in a name, and **/ is nothing or
-- the names of folders with their slashes
abbrev pub matches : List Part → List ℕ → Bool
matches [] [] = true
matches [] (b ∷ s) = false
matches (Byte c ∷ p) [] = false
matches (Byte c ∷ p) (b ∷ s) = (b == c) && matches p s
matches (Character ∷ p) [] = false
matches (Character ∷ p) (b ∷ s) = not (b == 47) && matches p (after_character s)
matches (Name ∷ p) s = within_name (matches p) s
matches (Folders ∷ p) s = matches p s || after_slash (matches p) s

-- whether one of several patterns matches a path
abbrev pub any_matches : List (List Part) → List ℕ → Bool
any_matches patterns path = list_any (λ p. matches p path) patterns

-- the parts of several patterns
abbrev pub parts_in : List (Vec Part Global) → List (List Part)
parts_in patterns = map (λ (p : Vec Part Global). p.items) patterns

-- a pattern of the program: one of several matches
abbrev pub alternatives_of : Pattern → List (List Part)
alternatives_of p = parts_in p.alternatives.items

-- whether a byte is a star, a question mark or the beginning of choices
abbrev pub is_wild : ℕ → Bool
is_wild b = b == 42 || b == 63 || b == 123

-- ---- the text of a pattern without choices

-- what a star begins, and how many bytes it has: two at the beginning of a name, with a slash after them or at the end, are folders; another one is of a name
abbrev pub star : Bool → List ℕ → Part × ℕ
star is_first [] = (Name, 1)
star is_first (b ∷ []) = if is_first && b == 42 then (Folders, 2) else (Name, 1)
star is_first (b ∷ c ∷ s) = if is_first && b == 42 && c == 47 then (Folders, 3) else (Name, 1)

-- what a backslash begins: the byte after it is itself
abbrev pub escaped : List ℕ → Part × ℕ
escaped [] = (Byte 92, 1)
escaped (b ∷ s) = (Byte b, 2)

-- the part that a text begins with, at the beginning of a name or not, and how many bytes it has
abbrev pub first_part : Bool → List ℕ → Part × ℕ
first_part is_first [] = (Name, 1)
first_part is_first (b ∷ s) =
    if b == 42 then star is_first s
    else (if b == 63 then (Character, 1) else (if b == 92 then escaped s else (Byte b, 1)))

-- a part; folders at the end of the text go on with any name
abbrev pub with_name : Bool → Part → List Part
with_name true Folders = Folders ∷ Name ∷ []
with_name is_last part = part ∷ []

-- the parts of what is left of a text, of which some bytes belong to the part before; at the beginning of a name or not
abbrev pub parts_after : ℕ → Bool → List ℕ → List Part
parts_after bytes is_first [] = []
parts_after (suc bytes) is_first (b ∷ s) = parts_after bytes (b == 47) s
parts_after zero is_first (b ∷ s) =
    with_name (nat_le (length (b ∷ s)) (first_part is_first (b ∷ s)).1) (first_part is_first (b ∷ s)).0
    ++ parts_after ((first_part is_first (b ∷ s)).1 - 1) (b == 47) s

-- the parts of a text without choices
abbrev pub parts_of : List ℕ → List Part
parts_of text = parts_after 0 true text
