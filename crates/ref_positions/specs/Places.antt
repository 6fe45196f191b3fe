-- The paths that places stand for.
use Rattle.std.specs.Prelude.{ℕ, ◌≡◌, ◌<◌, ◌≤◌, List, [], ◌∷◌, ◌++◌, Option, Some, None, string_bytes, get_or, length, slice_get, option_and_then}
use Rattle.std.specs.BTreeMap.{get_by_text, get}
use Rattle.std.specs.Ordering.{nat_cmp, ordering_then}
use Rattle.ref_positions.specs.Paths.{Step as PathStep, member, item, Path, below, number_of}
use Rattle.ref_positions.specs.declared.places.Entry.{Entry}
use Rattle.ref_positions.specs.declared.places.Step.{Step}
use Rattle.ref_positions.specs.declared.places.Index.{Index}
use Rattle.ref_positions.specs.declared.places.Step.TheVariants.{Member, Item}

abbrev pub step_of : Step → PathStep
step_of (Member key) = member (string_bytes key)
step_of (Item index) = item index

-- what the next number stands for: the first for the whole value, and each other for a step below one before it
abbrev pub next_path : List (Option Path) → Entry → Option Path
next_path [] e = Some []
next_path (p ∷ ps) e = below (p ∷ ps) e.above (step_of e.step)

-- what numbers stand for, after those before them
abbrev pub paths_from : List (Option Path) → List Entry → List (Option Path)
paths_from ps [] = ps
paths_from ps (e ∷ es) = paths_from (ps ++ next_path ps e ∷ []) es

-- what an index has for a step from a place
abbrev pub indexed : Index → ℕ → PathStep → Option ℕ
indexed index place (member key) = option_and_then (λ m. get_by_text m key) (slice_get index.members.items place)
indexed index place (item i) = get (λ (a b : ℕ × ℕ). ordering_then (nat_cmp a.0 b.0) (nat_cmp a.1 b.1)) index.items (place, i)

-- no place is a step below another
abbrev pub IsNew : List Entry → ℕ → PathStep → Type 0
IsNew es place step = (i : ℕ) (d : Entry) → 0 < i → i < length es → (get_or es i d).above < i → (get_or es i d).above ≡ place → step_of (get_or es i d).step ≡ step → ⊥

-- places are found by the index, and each path is that of one place
pub record IsIndexed (es : List Entry) (index : Index) : Type 0 where
  pub some : 0 < length es
  pub room : length es ≤ length index.members.items
  pub found : (i : ℕ) (d : Entry) → 0 < i → i < length es → (get_or es i d).above < i → indexed index (get_or es i d).above (step_of (get_or es i d).step) ≡ Some i
  pub distinct : (i j : ℕ) (p : Path) → get_or (paths_from [] es) i None ≡ Some p → get_or (paths_from [] es) j None ≡ Some p → i ≡ j

-- a number is that of the place which is a step below another before it
pub record IsEntry (es : List Entry) (n place : ℕ) (by : PathStep) : Type 0 where
  pub within : n < length es
  pub after : place < n
  pub above : (d : Entry) → (get_or es n d).above ≡ place
  pub step : (d : Entry) → step_of (get_or es n d).step ≡ by

-- what an index had for other steps, it has
abbrev pub KeepsOthers : Index → Index → ℕ → PathStep → Type 0
KeepsOthers old new place step = (n k : ℕ) (s : PathStep) → ((n ≡ place) → (s ≡ step) → ⊥) → indexed old n s ≡ Some k → indexed new n s ≡ Some k

-- numbers stand for paths of which each but that of the whole value is below another one
pub record IsTree (paths : List (Option Path)) : Type 0 where
  pub whole : number_of paths [] ≡ Some 0
  pub closed : (s : PathStep) (p : Path) → number_of paths p ≡ None → number_of paths (s ∷ p) ≡ None
  pub distinct : (i j : ℕ) (p : Path) → get_or paths i None ≡ Some p → get_or paths j None ≡ Some p → i ≡ j
