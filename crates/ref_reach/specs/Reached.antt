-- What is reached from places that documents have by themselves: what their references lead to, what is below that, what the
-- references of this lead to, and so on.
use Rattle.std.specs.Prelude.{◌≡◌, ℕ, Bool, true, false, not, List, [], ◌∷◌, ◌++◌, filter, flat_map, length, codes, decimal, Option}
use Rattle.std.specs.List.{Contains, IsDistinct, list_any, enumerate_from}
use Rattle.std.specs.Str.{bytes_eq}
use Rattle.ref_paths.specs.Path.{Part}
use Rattle.ref_parts.specs.Pointer.{pointer_text}
use Rattle.ref_draft.specs.Names.{draft_name}
use Rattle.ref_descriptions.specs.Fields.{kind_name}
use Rattle.ref_descriptions.specs.References.{Reference, references}
use Rattle.ref_reach.specs.Places.{Place, below_place}
use Rattle.ref_reach.specs.Leading as leading
use Rattle.ref_reach.specs.Leading.{Known, Problem, Outcome, Leads, Nothing, Wrong, WrongKind, version_text}
use Rattle.ref_reach.specs.Schemas.{is_among, schema_outcome}

-- Where references are followed from: the places that documents have by themselves, what each of their references is, and
-- which places aren't new where they are below one that was reached
pub record Around : Type 0 where
  pub own : List Place
  pub outcome : Place → Reference → Outcome
  pub is_own : Place → Bool

-- from descriptions
abbrev pub around_descriptions : Known → Around
around_descriptions known =
    record { own = known.own; outcome = leading.outcome known; is_own = λ p. false }

-- from the places that schemas have by themselves
abbrev pub around_schemas : Known → List Place → Around
around_schemas known places =
    record { own = places; outcome = schema_outcome known places; is_own = is_among places }

-- ---- what is reached

-- the place that a reference leads to
abbrev pub place_in : Outcome → List Place
place_in (Leads p) = p ∷ []
place_in Nothing = []
place_in (Wrong problem) = []

-- those that the references of a place lead to
abbrev pub leads : Around → Place → List Place
leads around p =
    flat_map (λ r. place_in (around.outcome p r)) (references p.reading p.value)

-- what is right below it and new, and what its references lead to
abbrev pub next : Around → Place → List Place
next around p =
    filter (λ q. not (around.is_own q)) (below_place p) ++ leads around p

-- what tells places apart: the number of its document, how it is read, its base, and its pointer there
abbrev pub place_text : Place → List ℕ
place_text p =
    decimal p.document ++ (codes " " ++ version_text p.reading.version)
    ++ (codes " " ++ draft_name p.reading.draft) ++ (codes " " ++ kind_name p.reading.kind)
    ++ (codes "\n" ++ p.base) ++ (codes "\n" ++ pointer_text p.path)

abbrev pub is_same : Place → Place → Bool
is_same p q = bytes_eq (place_text p) (place_text q)

-- whether it is one of these
abbrev pub is_in : List Place → Place → Bool
is_in places p = list_any (λ q. is_same q p) places

-- a place is reached: a reference of an own place leads to it, or it is next to one that is reached
pub data IsReached (around : Around) : Place → Type 0 where
  from_own : (from p : Place) → Contains around.own from → Contains (leads around from) p
      → IsReached around p
  from_reached : (from p : Place) → IsReached around from → Contains (next around from) p
      → IsReached around p

-- The places that are reached: each is, whatever own places or one of these lead to is among them, and none comes twice
pub record AreReached (around : Around) (places : List Place) : Type 0 where
  pub only : (p : Place) → Contains places p → IsReached around p
  pub from_own : (from p : Place) → Contains around.own from → Contains (leads around from) p
      → is_in places p ≡ true
  pub closed : (from p : Place) → Contains places from → Contains (next around from) p
      → is_in places p ≡ true
  pub once : IsDistinct is_same places

-- ---- what is wrong

-- something that is wrong with a reference, or is noted: the number of its place, where its text is there and under which key,
-- the text, and what is wrong
pub record Finding : Type 0 where
  pub place : ℕ
  pub within : List Part
  pub keyword : List ℕ
  pub text : Option (List ℕ)
  pub problem : Problem

abbrev pub finding_of : ℕ → Reference → Problem → Finding
finding_of number r problem =
    record {
      place = number;
      within = r.within;
      keyword = r.keyword;
      text = r.text;
      problem = problem;
    }

abbrev pub finding_in : ℕ → Reference → Outcome → List Finding
finding_in number r (Leads p) = []
finding_in number r Nothing = []
finding_in number r (Wrong problem) = finding_of number r problem ∷ []

-- what is wrong with the references of the place with a number
abbrev pub findings_at : Around → ℕ × Place → List Finding
findings_at around e =
    flat_map (λ r. finding_in e.0 r (around.outcome e.1 r)) (references e.1.reading e.1.value)

-- that a reference leads to an object of another kind
abbrev pub kind_in : ℕ → Reference → Outcome → List Finding
kind_in number r (Wrong (WrongKind uri is wanted)) =
    finding_of number r (WrongKind uri is wanted) ∷ []
kind_in number r other = []

abbrev pub kinds_at : Around → ℕ × Place → List Finding
kinds_at around e =
    flat_map (λ r. kind_in e.0 r (around.outcome e.1 r)) (references e.1.reading e.1.value)

-- those of places, the first of which has this number
abbrev pub findings_from : Around → ℕ → List Place → List Finding
findings_from around number places =
    flat_map (findings_at around) (enumerate_from number places)

-- What is wrong with the references of descriptions: of their own places, and then of those that are reached
abbrev pub described_findings : Known → List Place → List Finding
described_findings known places =
    findings_from (around_descriptions known) 0 (known.own ++ places)

-- of schemas: which references of their own places lead to an object of another kind, as all else is found without what is
-- reached; and then all of those that are reached
abbrev pub schema_findings : Known → List Place → List Place → List Finding
schema_findings known own places =
    flat_map (kinds_at (around_schemas known own)) (enumerate_from 0 own)
    ++ findings_from (around_schemas known own) (length own) places

-- how many references places have
abbrev pub count_references : List Place → ℕ
count_references places = length (flat_map (λ p. references p.reading p.value) places)
