-- What the texts of scalars are, by YAML 1.2.2. Texts are their bytes.
use Rattle.std.specs.Prelude.{◌≡◌, ℕ, ◌-◌, ◌&&◌, true, false, nat_le, if◌then◌else◌, List, [], length, take, drop, Option}
use Rattle.ref_yaml.specs.Flow.{with_feeds, with_quotes, folded}
use Rattle.ref_yaml.specs.Block.{after_header, chomping_of, literal_text, folded_text}
use Rattle.ref_yaml.specs.Escapes.{unescaped}

-- the bytes from one offset to another
abbrev pub part : List ℕ → ℕ → ℕ → List ℕ
part text from to = if nat_le from to && nat_le to (length text) then take (to - from) (drop from text) else []

-- a plain scalar (7.3.3)
abbrev pub plain_text : List ℕ → List ℕ
plain_text source = folded false false [] 0 false (with_feeds false source)

-- what is between single quotes (7.3.2)
abbrev pub single_text : List ℕ → List ℕ
single_text source = plain_text (with_quotes false source)

-- what is between double quotes (7.3.1), or nothing where an escape is wrong
abbrev pub double_text : List ℕ → Option (List ℕ)
double_text source = unescaped (folded true false [] 0 false (with_feeds false source))

-- a literal scalar (8.1.2), by its bytes from `|` on: its lines, which are indented by so many spaces, with the chomping indicator of its header
abbrev pub literal_scalar : ℕ → List ℕ → List ℕ
literal_scalar indent source = literal_text (chomping_of source) indent (with_feeds false (after_header source))

-- the same of a folded one (8.1.3), from `>` on
abbrev pub folded_scalar : ℕ → List ℕ → List ℕ
folded_scalar indent source = folded_text (chomping_of source) indent (with_feeds false (after_header source))

-- a literal and a folded scalar from one offset of a text to another
abbrev pub IsLiteral : List ℕ → ℕ → ℕ → ℕ → List ℕ → Type 0
IsLiteral text start end indent value = value ≡ literal_scalar indent (part text start end)

abbrev pub IsFolded : List ℕ → ℕ → ℕ → ℕ → List ℕ → Type 0
IsFolded text start end indent value = value ≡ folded_scalar indent (part text start end)
