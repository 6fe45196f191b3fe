-- A sorted table as the list of the entries that it was made from.
use Rattle.std.specs.Prelude.{◌≡◌, ℕ, ◌+◌, Bool, ◌&&◌, bytes_eq, String, string_bytes, List, [], ◌∷◌, filter, map, Option, None, is_some, option_map, if◌then◌else◌}
use Rattle.std.specs.Borrow.{MutBor}
use Rattle.std.specs.Fn.{Mut, CalledAtMut}
use Rattle.std.specs.List.{last_or}
use Rattle.std.specs.declared.alloc.Global.{Global}

-- an entry: two texts, and the value that was entered under them
abbrev pub Entry : Type 0 → Type 0
Entry V = List ℕ × List ℕ × V

-- the entries that these tuples are
abbrev pub entries_of : {V : Type 0} → List (String Global × String Global × V) → List (Entry V)
entries_of tuples = map (λ e. (string_bytes e.0, string_bytes e.1, e.2)) tuples

-- the texts that an entry is under
abbrev pub texts_of : {V : Type 0} → Entry V → List ℕ × List ℕ
texts_of e = (e.0, e.1)

-- the entry with what a function gives of its value
abbrev pub with_value : {V : Type 0} → (V → V) → Entry V → Entry V
with_value h e = (e.0, e.1, h e.2)

-- a call of f at a `&mut` to any value puts there what a function gives of it, and leaves f as it was
abbrev pub ChangesBy : {F V : Type 0}
    → Mut F (MutBor V × Unit {0}) (Unit {0} × (MutBor V × Unit {0})) → F → (V → V) → Type 0
ChangesBy {F} {V} g f h =
    (value value' : V) (f' : F) → CalledAtMut g f value tt f' value' → (value' ≡ h value) × (f' ≡ f)

-- the entry is under these two texts
abbrev pub is_under : {V : Type 0} → List ℕ → List ℕ → Entry V → Bool
is_under first second e = bytes_eq e.0 first && bytes_eq e.1 second

-- the last value that was entered under two texts
abbrev pub last_value : {V : Type 0} → List ℕ → List ℕ → List (Entry V) → Option V
last_value first second entries =
    option_map (λ e. e.2) (last_or None (filter (is_under first second) entries))

-- how many different pairs of texts have a value: an entry counts where no later one is under its texts
abbrev pub pair_count : {V : Type 0} → List (Entry V) → ℕ
pair_count [] = 0
pair_count (e ∷ entries) =
    if is_some (last_value e.0 e.1 entries) then pair_count entries else pair_count entries + 1
