-- What holds in a search for circles.
use Rattle.std.specs.Prelude.{◌≡◌, ℕ, ◌+◌, ◌*◌, ◌-◌, ◌<◌, ◌≤◌, ◌⊎◌, List, [], ◌∷◌, ◌++◌, length, map, drop, All, true, Option, Some, None, slice_get, slice_set, slice_index_or}
use Rattle.std.specs.List.{sum_by}
use Rattle.std.specs.Option.{option_map_or}
use Rattle.ref_graphs.specs.declared.circles.State.{State}
use Rattle.ref_graphs.specs.declared.circles.State.TheVariants.{New, Open, Done}
use Rattle.ref_graphs.specs.declared.circles.Opened.{Opened}
use Rattle.ref_graphs.specs.declared.circles.Search as rust_search
use Rattle.ref_graphs.specs.declared.circles.Circle as rust_circle
use Rattle.ref_graphs.specs.Circles.{Step, is_circle}
use Rattle.ref_graphs.specs.Reaching.{is_between}
use Rattle.ref_graphs.specs.Closing.{Circle, is_closing, is_other, AreApart, AreShown}
use Rattle.ref_graphs.specs.Views.{circle_of}
use Rattle.ref_graphs.specs.inner.Searching.{from_of, after}

-- the state of a place; one that isn't there is done
abbrev pub state_at : List State → ℕ → State
state_at states p = slice_index_or states p Done

-- a place that is opened, to which a step leads
abbrev pub entered : List (Option ℕ) → ℕ → ℕ → Opened
entered last place by =
    record { place = place; next = slice_index_or last place None; by = by }

-- the steps from an open place on
abbrev pub way : List Opened → ℕ → List ℕ
way stack depth = map (λ (e : Opened). e.by) (drop (depth + 1) stack)

-- a search, and the circles that were found
pub record Trace : Type 0 where
  pub states : List State
  pub stack : List Opened
  pub given : ℕ
  pub list : List Circle

abbrev pub trace_of : rust_search.Search → List rust_circle.Circle → Trace
trace_of s list = record { states = s.states.items; stack = s.stack.items; given = s.given; list = map circle_of list }

-- the steps of a circle are given, or they would be too many
abbrev pub IsGiven : List Opened → ℕ → ℕ → ℕ → ℕ → List ℕ → Type 0
IsGiven stack depth number given size ns =
    ((ns ≡ []) × (65536 < given + size)) ⊎ (ns ≡ way stack depth ++ number ∷ [])

-- A step that comes back to an open place, which has this number among those that are, closes a circle
pub record Closes (depth number : ℕ) (a b : Trace) : Type 0 where
  pub circle : Circle
  pub added : b.list ≡ a.list ++ circle ∷ []
  pub closing : circle.closing ≡ number
  pub size : circle.size ≡ length a.stack - depth
  pub steps : IsGiven a.stack depth number a.given circle.size circle.steps
  pub given : b.given ≤ a.given + circle.size

-- What becomes of a search where a step of the place that was opened last is passed, which leads to a place of this state
abbrev pub PassesTo : List (Option ℕ) → ℕ → Step → State → Trace → Trace → Type 0
PassesTo last number s New a b =
    (b.states ≡ slice_set a.states s.to (Open (length a.stack)))
    × (b.stack ≡ a.stack ++ entered last s.to number ∷ []) × (b.given ≡ a.given) × (b.list ≡ a.list)
PassesTo last number s (Open depth) a b =
    (b.states ≡ a.states) × (b.stack ≡ a.stack) × Closes depth number a b
PassesTo last number s Done a b =
    (b.states ≡ a.states) × (b.stack ≡ a.stack) × (b.given ≡ a.given) × (b.list ≡ a.list)

abbrev pub Passes : List (Option ℕ) → ℕ → Option Step → Trace → Trace → Type 0
Passes last number None a b =
    (b.states ≡ a.states) × (b.stack ≡ a.stack) × (b.given ≡ a.given) × (b.list ≡ a.list)
Passes last number (Some s) a b = PassesTo last number s (state_at a.states s.to) a b

-- Each open place has its number as its state, and its next step begins there
pub record IsStack (count : ℕ) (steps : List Step) (t : Trace) : Type 0 where
  pub places : length t.states ≡ count
  pub opened : (i : ℕ) (e : Opened) → slice_get t.stack i ≡ Some e
      → (e.place < count) × (state_at t.states e.place ≡ Open i)
  pub begins : (i : ℕ) (e : Opened) (n : ℕ) → slice_get t.stack i ≡ Some e → e.next ≡ Some n
      → (n < length steps) × (from_of steps n ≡ e.place)

-- A step was passed
abbrev pub IsPassed : List Step → Trace → ℕ → Type 0
IsPassed steps t n =
    (state_at t.states (from_of steps n) ≡ Done)
    ⊎ ((i : ℕ) × (e : Opened) × (slice_get t.stack i ≡ Some e) × (e.place ≡ from_of steps n) × (after e.next ≤ n))

-- It was passed, and closes no circle
abbrev pub IsOwn : ℕ → List Step → Trace → ℕ → Type 0
IsOwn count steps t n = (is_other count steps t.list n ≡ true) × IsPassed steps t n

-- Such steps lead to one place from the one before it. What was passed of an open place closes a circle, or leads to one that is done, or to the place that was opened
-- after it; and what is left of the steps from each place that is done leads to places of a lower rank that are
pub record IsTraced (count : ℕ) (steps : List Step) (rank : ℕ → ℕ) (top : ℕ) (t : Trace) : Type 0 where
  pub opens : (p i : ℕ) → state_at t.states p ≡ Open i
      → (e : Opened) × (slice_get t.stack i ≡ Some e) × (e.place ≡ p)
  pub passed : (i : ℕ) (e : Opened) (n : ℕ) (s : Step) → slice_get t.stack i ≡ Some e
      → slice_get steps n ≡ Some s → s.from ≡ e.place → after e.next ≤ n → s.to < count
      → (is_closing t.list n ≡ true)
      ⊎ ((state_at t.states s.to ≡ Done)
      ⊎ ((f : Opened) × (slice_get t.stack (i + 1) ≡ Some f) × (f.place ≡ s.to)))
  pub entered : (i : ℕ) (e f : Opened) → slice_get t.stack i ≡ Some e
      → slice_get t.stack (i + 1) ≡ Some f
      → (s : Step) × (slice_get steps f.by ≡ Some s) × (s.from ≡ e.place) × (s.to ≡ f.place)
  pub own : (i : ℕ) (f : Opened) → slice_get t.stack (i + 1) ≡ Some f → IsOwn count steps t f.by
  pub done : (n : ℕ) (s : Step) → slice_get steps n ≡ Some s → s.from < count → s.to < count
      → state_at t.states s.from ≡ Done
      → (is_closing t.list n ≡ true) ⊎ ((state_at t.states s.to ≡ Done) × (rank s.to < rank s.from))
  pub below : (p : ℕ) → p < count → state_at t.states p ≡ Done → rank p < top

-- Such steps lead to where a step begins from where it ends
abbrev pub IsMade : ℕ → List Step → Trace → Circle → Type 0
IsMade count steps t c =
    (ns : List ℕ) × All (IsOwn count steps t) ns × (is_between count steps c.closing ≡ true)
    × (is_circle steps (ns ++ c.closing ∷ []) ≡ true) × (length ns + 1 ≡ c.size)
    × ((c.steps ≡ []) ⊎ (c.steps ≡ ns ++ c.closing ∷ []))

-- Each circle is so, and closed by a step that was passed, and by no other one of them
pub record IsListed (count : ℕ) (steps : List Step) (t : Trace) : Type 0 where
  pub passed : (n : ℕ) → is_closing t.list n ≡ true → IsPassed steps t n
  pub made : All (IsMade count steps t) t.list
  pub apart : AreApart t.list
  pub given : t.given ≤ sum_by (λ c. c.size) t.list
  pub shown : AreShown t.list

abbrev pub Holds : ℕ → List Step → Trace → Type 0
Holds count steps t =
    (rank : ℕ → ℕ) × (top : ℕ) × IsTraced count steps rank top t × IsListed count steps t

-- places that aren't new stay so
abbrev pub Kept : Trace → Trace → Type 0
Kept a b = (p : ℕ) → (state_at a.states p ≡ New → ⊥) → state_at b.states p ≡ New → ⊥

-- what is left to be done
abbrev pub weight : State → ℕ
weight New = 2
weight (Open i) = 1
weight Done = 0

abbrev pub measure : ℕ → Trace → ℕ
measure steps t =
    sum_by weight t.states * (steps + 1)
    + option_map_or (λ (e : Opened). after e.next) (slice_get t.stack (length t.stack - 1)) 0
