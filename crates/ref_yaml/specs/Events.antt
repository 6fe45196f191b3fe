-- Events and faults, and their offsets.
use Rattle.std.specs.Prelude.{ℕ, ◌-◌, ◌*◌, max, ◌<◌, ◌≤◌, ◌==◌, ◌&&◌, ◌||◌, Bool, true, false, not, nat_le, IsTrue, List, [], ◌∷◌, slice_index, ⊤}
use Rattle.ref_yaml.specs.Flow.{is_white}
use Rattle.ref_yaml.specs.declared.event.Event.{Event}
use Rattle.ref_yaml.specs.declared.event.Kind.{Kind}
use Rattle.ref_yaml.specs.declared.event.Kind.TheVariants.{BeginArray, EndArray, BeginObject, EndObject, Plain, SingleQuoted, DoubleQuoted, Literal, Folded}
use Rattle.ref_yaml.specs.declared.fault.Stop.{Stop}
use Rattle.ref_yaml.specs.declared.fault.Stop.TheVariants.{Memory, At}

-- which events are scalars
abbrev pub is_scalar : Kind → Bool
is_scalar Plain = true
is_scalar SingleQuoted = true
is_scalar DoubleQuoted = true
is_scalar Literal = true
is_scalar Folded = true
is_scalar kind = false

-- how many events a text of so many bytes has at most
abbrev pub most_events : ℕ → ℕ
most_events count = max (10 * count) 1000000

-- an event is within a text of so many bytes
abbrev pub IsWithin : ℕ → Event → Type 0
IsWithin count event = (event.start ≤ event.end) × (event.end ≤ count)

-- a space, a tab or a line break (5.4, 5.5)
abbrev pub is_space : ℕ → Bool
is_space b = is_white b || (b == 10) || (b == 13)

-- a byte that no object begins at: white space, a comma, or a closing bracket
abbrev pub is_between : ℕ → Bool
is_between b = is_space b || (b == 44) || (b == 93) || (b == 125)

-- whether an event may have these as its first and its last byte: quotes, `|` or `>`, a closing bracket, and in a plain scalar no white space
abbrev pub has_ends : Kind → ℕ → ℕ → Bool
has_ends SingleQuoted first last = (first == 39) && (last == 39)
has_ends DoubleQuoted first last = (first == 34) && (last == 34)
has_ends Literal first last = first == 124
has_ends Folded first last = first == 62
has_ends Plain first last = not (is_space first || is_space last)
has_ends EndArray first last = first == 93
has_ends EndObject first last = first == 125
has_ends kind first last = true

-- whether an event may begin at this byte: a list at `[` or at `-`, an object at its bracket or where its first key does
abbrev pub may_begin : Kind → ℕ → Bool
may_begin BeginArray first = (first == 91) || (first == 45)
may_begin BeginObject first = not (is_between first)
may_begin kind first = true

-- what an event begins at, and one that has bytes what is at its ends
abbrev pub IsInPlace : List ℕ → Event → Type 0
IsInPlace text e = IsTrue (may_begin e.kind (slice_index text e.start)) × (e.start < e.end → IsTrue (has_ends e.kind (slice_index text e.start) (slice_index text (e.end - 1))))

-- whether each event begins at the end of the one before it or later, the first of them at an offset or later
abbrev pub are_apart : ℕ → List Event → Bool
are_apart from [] = true
are_apart from (e ∷ es) = nat_le from e.start && are_apart e.end es

-- what is wrong is within a text of so many bytes, or at its end
abbrev pub IsStopWithin : ℕ → Stop → Type 0
IsStopWithin count Memory = ⊤
IsStopWithin count (At fault offset) = offset ≤ count
