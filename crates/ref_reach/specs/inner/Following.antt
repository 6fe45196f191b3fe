-- What was reached so far.
use Rattle.std.specs.Prelude.{◌≡◌, ℕ, ◌+◌, ◌-◌, ◌^◌, min, Bool, true, false, List, ◌++◌, map, flat_map, length, slice_get, Option, Some, None, option_map, bytes_eq}
use Rattle.std.specs.List.{AllZip, list_any}
use Rattle.std.specs.HashSet.{contains_text}
use Rattle.ref_descriptions.specs.References.{references}
use Rattle.ref_reach.specs.declared.seen.Seen.{Seen}
use Rattle.ref_reach.specs.declared.reaching.State.{State}
use Rattle.ref_reach.specs.declared.reaching.Reached.{Reached}
use Rattle.ref_reach.specs.declared.reaching.Around as rust
use Rattle.ref_reach.specs.Places.{Place}
use Rattle.ref_reach.specs.Leading.{Known}
use Rattle.ref_reach.specs.Reached.{Around, around_descriptions, around_schemas, AreReached, leads, next, place_text, is_same, Finding, findings_at, findings_from, count_references}
use Rattle.ref_reach.specs.Views.{place_of, IsFindingOf}
use Rattle.ref_reach.specs.Knowing.{known_of}
use Rattle.ref_reach.specs.inner.Closing as closing
use Rattle.ref_reach.specs.inner.Closing.{given_by, counted_by}

-- where the program follows references from
abbrev pub around_by : Known → Option (List Place) → Around
around_by known None = around_descriptions known
around_by known (Some own) = around_schemas known own

abbrev pub around_of : rust.Around → Around
around_of a =
    around_by (known_of a.documents.now) (option_map (λ s. map place_of s.now.places.items) a.schemas)

-- what own places lead to
abbrev pub beginning : Around → List Place
beginning around = flat_map (leads around) around.own

-- a place more, and more places, at the end, where they are none of these
abbrev pub with_one : List Place → Place → List Place
with_one places p = closing.with_one is_same places p

abbrev pub with_new : List Place → List Place → List Place
with_new places more = closing.with_new is_same places more

-- what is reached from the own places, and from so many of those that are reached
abbrev pub followed : Around → ℕ → List Place
followed around n = closing.followed is_same (next around) (beginning around) n

-- what is wrong with the references of so many of them
abbrev pub wrong_in : Around → ℕ → List Finding
wrong_in around n =
    given_by is_same (next around) (beginning around) (findings_at around) (length around.own) n

-- how many references so many of them have
abbrev pub count_in : Around → ℕ → ℕ
count_in around n =
    counted_by is_same (next around) (beginning around) (λ p. references p.reading p.value) n

-- ---- what the program has noted

-- these places, each under its text
pub record IsSeen (seen : Seen) (places : List Place) : Type 0 where
  pub listed : map place_of seen.places.items ≡ places
  pub known : (text : List ℕ)
      → contains_text seen.texts text ≡ list_any (λ q. bytes_eq (place_text q) text) places

-- these places, these findings, and so many references
pub record Says (state : State) (places : List Place) (list : List Finding) (count : ℕ) : Type 0 where
  pub seen : IsSeen state.reached places
  pub found : AllZip IsFindingOf state.findings.items list
  pub counted : state.references ≡ min count (2 ^ 64 - 1)

-- the place with a number was visited, or there is none
abbrev pub IsVisited : Around → List Place → List Finding → ℕ → ℕ → State → Bool → Type 0
IsVisited around places list count number state true =
    (p : Place) × (slice_get places number ≡ Some p)
    × Says state (with_new places (next around p))
    (list ++ findings_at around (length around.own + number, p))
    (count + length (references p.reading p.value))
IsVisited around places list count number state false =
    (slice_get places number ≡ None) × Says state places list count

-- what was reached from a beginning is closed: its places, after this list what is wrong with their references, and so many
-- references more
pub record IsClosed (around : Around) (list : List Finding) (count : ℕ) (reached : Reached) : Type 0 where
  pub places : AreReached around (map place_of reached.places.items)
  pub found : AllZip IsFindingOf reached.findings.items
      (list ++ findings_from around (length around.own) (map place_of reached.places.items))
  pub counted : reached.references
      ≡ min (count + count_references (map place_of reached.places.items)) (2 ^ 64 - 1)
