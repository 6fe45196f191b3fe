-- What passing a byte of a text with escapes gives, the parts of a number, and bytes that stay as they are.
use Rattle.std.specs.Prelude.{◌≡◌, ◌≢◌, ℕ, List, ◌++◌, Option, Some, None}
use Rattle.ref_yaml.specs.declared.escape.Reading as code
use Rattle.ref_yaml.specs.declared.number.Decimal.{Decimal}
use Rattle.ref_yaml.specs.Core.{Parts}
use Rattle.ref_yaml.specs.Escapes.{Reading}

abbrev pub reading_of : code.Reading → Reading
reading_of r = record { after = r.after; left = r.left; number = r.number; first = r.first }

-- Where the definition gives nothing, nothing; else what it adds is added, and how much is read is as it says.
abbrev pub Passes : Option (List ℕ × Reading) → List ℕ → List ℕ → Option code.Reading → Type 0
Passes defined old new None = defined ≡ None
Passes defined old new (Some r) = (s : List ℕ) × (defined ≡ Some (s, reading_of r)) × (new ≡ old ++ s)

abbrev pub parts_in : Decimal → Parts
parts_in d = record { negative = d.is_negative; whole = d.whole.now; point = d.has_point; fraction = d.fraction.now; exponent = d.exponent.now }

-- A byte is neither a line break nor this one.
abbrev pub IsWithoutMark : ℕ → ℕ → Type 0
IsWithoutMark mark b = (b ≢ 10) × (b ≢ 13) × (b ≢ mark)

-- A byte isn't a carriage return.
abbrev pub IsNoReturn : ℕ → Type 0
IsNoReturn b = b ≢ 13
