-- What a walk has noted of the tokens that it passed, and where it is.
use Rattle.std.specs.Prelude.{ℕ, ◌≡◌, ◌<◌, ◌≤◌, ◌+◌, ◌-◌, ◌^◌, nat_lt, cond, List, [], ◌∷◌, ◌++◌, Option, Some, None, get_or, length, slice_set, ⊤, Bool, true, false, is_some}
use Rattle.std.specs.Prelude.{reverse}
use Rattle.ref_positions.specs.Paths.{Path, Step, member, item, number_of}
use Rattle.ref_positions.specs.Parts.{Token, Next, value, name, nothing, next, Part, begun, within, last_key, last_value, key_in, value_in}
use Rattle.ref_positions.specs.Places.{IsTree}
use Rattle.ref_positions.specs.declared.walk.Found.{Found}
use Rattle.ref_positions.specs.declared.walk.Level.{Level}
use Rattle.ref_positions.specs.declared.walk.Walk.{Walk}
use Rattle.ref_positions.specs.declared.walk.Coming as code
use Rattle.ref_positions.specs.declared.walk.Coming.TheVariants.{Value, Key, Nothing}

abbrev pub not_found : Found
not_found = record { key = None; value = None }

-- what was last found at a path
abbrev pub last_at : List Part → Option Path → Found
last_at ps None = not_found
last_at ps (Some p) = record { key = last_key p ps; value = last_value p ps }

-- a number's path has its last key and value at this number
abbrev pub IsTable : List (Option Path) → List Found → List Part → Type 0
IsTable paths found ps = (length found ≡ length paths) × ((n : ℕ) → get_or found n not_found ≡ last_at ps (get_or paths n None))

abbrev pub IsStep : Option ℕ → Step → Type 0
IsStep None (member k) = ⊤
IsStep None (item i) = ⊥
IsStep (Some i) (member k) = ⊥
IsStep (Some i) (item j) = i ≡ j

-- levels, the innermost first, lead to a path
abbrev pub AreLevels : List (Option Path) → List Level → Path → Type 0
AreLevels paths [] [] = ⊤
AreLevels paths [] (s ∷ p) = ⊥
AreLevels paths (l ∷ ls) [] = ⊥
AreLevels paths (l ∷ ls) (s ∷ p) = (l.place ≡ number_of paths p) × (IsStep l.index s) × (AreLevels paths ls p)

abbrev pub AreOpen : List (Option Path) → Option Level → List Level → Path → Type 0
AreOpen paths None outer p = (outer ≡ []) × (p ≡ [])
AreOpen paths (Some l) outer p = AreLevels paths (l ∷ reverse outer) p

-- the number of a value that comes and is no item
abbrev pub IsNamed : List (Option Path) → Option ℕ → Path → Type 0
IsNamed paths number [] = number ≡ number_of paths []
IsNamed paths number (member k ∷ p) = number ≡ number_of paths (member k ∷ p)
IsNamed paths number (item i ∷ p) = ⊤

abbrev pub IsComing : List (Option Path) → Option Level → List Level → code.Coming → Next → Type 0
IsComing paths level outer (Value number) (value p) = (AreOpen paths level outer p) × (IsNamed paths number p)
IsComing paths level outer Key (name p) = AreOpen paths level outer (member [] ∷ p)
IsComing paths level outer Nothing nothing = (level ≡ None) × (outer ≡ [])
IsComing paths level outer (Value number) (name p) = ⊥
IsComing paths level outer (Value number) nothing = ⊥
IsComing paths level outer Key (value p) = ⊥
IsComing paths level outer Key nothing = ⊥
IsComing paths level outer Nothing (value p) = ⊥
IsComing paths level outer Nothing (name p) = ⊥

-- no index is more than a number
abbrev pub IsFew : ℕ → Path → Type 0
IsFew n [] = ⊤
IsFew n (member k ∷ p) = IsFew n p
IsFew n (item i ∷ p) = (i ≤ n) × (IsFew n p)

abbrev pub AreFew : ℕ → Next → Type 0
AreFew n (value p) = IsFew n p
AreFew n (name p) = IsFew n p
AreFew n nothing = ⊤

-- a walk has passed so many tokens, with these parts, and this comes next
pub record IsWalk (paths : List (Option Path)) (w : Walk) (n : ℕ) (before : Next) (ps : List Part) : Type 0 where
  pub tree : IsTree paths
  pub table : IsTable paths w.found.items ps
  pub coming : IsComing paths w.level w.outer.items w.next before
  pub few : AreFew n before

-- a walk passes a token
abbrev pub Passes : List (Option Path) → Walk → Walk → ℕ → Token → Type 0
Passes paths old new n t = (before : Next) (ps : List Part) → n < 2 ^ 64 - 1 → IsWalk paths old n before ps → IsWalk paths new (n + 1) (next before t) (ps ++ begun before n t)

-- a table with a key or a value that was found at a number
abbrev pub with_value : List Found → Option ℕ → ℕ × ℕ → List Found
with_value found None at = found
with_value found (Some n) at = cond (nat_lt n (length found)) (slice_set found n (record { key = (get_or found n not_found).key; value = Some at })) found

abbrev pub with_key : List Found → Option ℕ → ℕ × ℕ → List Found
with_key found None at = found
with_key found (Some n) at = cond (nat_lt n (length found)) (slice_set found n (record { key = Some at; value = (get_or found n not_found).value })) found

-- whether an end ends what is open
abbrev pub is_item : Option Level → Bool
is_item None = false
is_item (Some l) = is_some l.index

abbrev pub ends : Option Level → code.Coming → Bool
ends level (Value number) = is_item level
ends level Key = true
ends level Nothing = false

-- whether a key comes, in an object that has a number
abbrev pub has_number : Option Level → Bool
has_number None = false
has_number (Some l) = is_some l.place

abbrev pub is_asked : Option Level → code.Coming → Bool
is_asked level (Value number) = false
is_asked level Key = has_number level
is_asked level Nothing = false

-- after a key that isn't asked for, a value without a number comes
abbrev pub IsOtherKey : code.Coming → code.Coming → Type 0
IsOtherKey (Value number) new = new ≡ Value number
IsOtherKey Key new = new ≡ Value None
IsOtherKey Nothing new = new ≡ Nothing

-- what counts at a path
abbrev pub counted : List Part → Option Path → Found
counted ps None = not_found
counted ps (Some p) = record { key = key_in ps p; value = value_in ps p }

abbrev pub IsCounted : List (Option Path) → List Found → List Part → Type 0
IsCounted paths found ps = (length found ≡ length paths) × ((n : ℕ) → get_or found n not_found ≡ counted ps (get_or paths n None))

-- it is so at the numbers below one, and at the others not yet
pub record IsCountedBelow (paths : List (Option Path)) (found : List Found) (ps : List Part) (i : ℕ) : Type 0 where
  pub long : length found ≡ length paths
  pub below : (n : ℕ) → n < i → get_or found n not_found ≡ counted ps (get_or paths n None)
  pub from : (n : ℕ) → i ≤ n → get_or found n not_found ≡ last_at ps (get_or paths n None)

-- what is left at a number, where it is in the value at another one
abbrev pub settled_in : List Found → ℕ → ℕ → List Found
settled_in found n above = slice_set found n (record {
  key = within (get_or found above not_found).value (get_or found n not_found).key;
  value = within (get_or found above not_found).value (get_or found n not_found).value;
})

abbrev pub settled : List Found → ℕ → ℕ → List Found
settled found n above = cond (nat_lt above n) (settled_in found n above) found
