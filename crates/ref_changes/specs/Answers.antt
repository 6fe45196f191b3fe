-- What references lead to, and whether they lead to the same after a change.
use Rattle.std.specs.Prelude.{ℕ, Bool, true, false, ◌&&◌, ◌==◌, List, [], ◌∷◌, codes, bytes_eq, is_some, if◌then◌else◌, Option, Some, None, option_map, Result, Ok, Err}
use Rattle.std.specs.Result.{result_ok}
use Rattle.std.specs.List.{list_any}
use Rattle.serde_json.specs.Data.{Data}
use Rattle.ref_uri.specs.Bytes.{hash}
use Rattle.ref_uri.specs.Targets.{fragment_part}
use Rattle.ref_draft.specs.declared.draft.Draft.{Draft}
use Rattle.ref_draft.specs.Names.{draft_name}
use Rattle.ref_draft.specs.Anchors.{Kind, anchors}
use Rattle.ref_parts.specs.Pointer.{slash}
use Rattle.ref_definitions.specs.World.{World}
use Rattle.ref_definitions.specs.Fault.{Fault, Unretrievable, PointerToNowhere, InvalidPercentEncoding, InvalidArrayIndex, NoSuchAnchor, InvalidAnchor, InvalidUri, UnknownSpecification, CircularMetaschema, RetrievalLimit}
use Rattle.ref_definitions.specs.Lookup.{Resolver, Found, lookup, in_subresource, is_dynamic}
use Rattle.ref_index.specs.Spots.{Spot}
use Rattle.ref_resolver.specs.Locations.{lookup_location}
use Rattle.ref_changes.specs.Moves.{Moves, is_moved_if}

-- ---- what a reference leads to

-- what it leads to: where that is, the value, its draft, and the base once the value is entered, where its identifier means a URI
pub record Led : Type 0 where
  pub at : Option (ℕ × Spot)
  pub value : Data
  pub draft : Draft
  pub base : Option (List ℕ)

-- a reference leads somewhere, or fails by a fault, of which the name counts
pub data Answer : Type 0 where
  Leads : Led → Answer
  Fails : List ℕ → Answer

-- the name of a fault
abbrev pub fault_name : Fault → List ℕ
fault_name (Unretrievable uri source) = codes "Unretrievable"
fault_name (PointerToNowhere pointer) = codes "PointerToNowhere"
fault_name (InvalidPercentEncoding pointer) = codes "InvalidPercentEncoding"
fault_name (InvalidArrayIndex pointer index) = codes "InvalidArrayIndex"
fault_name (NoSuchAnchor anchor) = codes "NoSuchAnchor"
fault_name (InvalidAnchor anchor) = codes "InvalidAnchor"
fault_name (InvalidUri refusal) = codes "InvalidUri"
fault_name (UnknownSpecification uri) = codes "UnknownSpecification"
fault_name (CircularMetaschema uri) = codes "CircularMetaschema"
fault_name (RetrievalLimit uri limit) = codes "RetrievalLimit"

-- the base once a value that was found is entered (2020-12 Core, 8.2.1)
abbrev pub entered : Found → Option (List ℕ)
entered f = option_map (λ r. r.base) (result_ok (in_subresource f.resolver f.draft f.value))

-- by the look-up, and where its value is
abbrev pub answer_by : Option (ℕ × Spot) → Result Found Fault → Answer
answer_by at (Ok f) =
    Leads (record { at = at; value = f.value; draft = f.draft; base = entered f })
answer_by at (Err fault) = Fails (fault_name fault)

-- what a reference leads to from a resolver
abbrev pub answer_from : World → Resolver → List ℕ → Answer
answer_from world r reference =
    answer_by (lookup_location world r reference) (lookup world r reference)

-- from a base, with an empty dynamic scope
abbrev pub at_base : List ℕ → Resolver
at_base base = record { base = base; scope = [] }

abbrev pub answer : World → List ℕ → List ℕ → Answer
answer world base reference = answer_from world (at_base base) reference

-- where that is, where it leads somewhere
abbrev pub location : Answer → Option (ℕ × Spot)
location (Leads led) = led.at
location (Fails fault) = None

-- where the resource is that a base means
abbrev pub resource_at : World → List ℕ → Option (ℕ × Spot)
resource_at world base = location (answer world base (codes "#"))

-- ---- the same after a change

-- two worlds, and what moves from the one to the other
pub record Change : Type 0 where
  pub moves : Moves
  pub before : World
  pub after : World

-- a base means the same resource: where it means none, it means none after
abbrev pub is_base_kept : Change → List ℕ → List ℕ → Bool
is_base_kept c base now =
    is_moved_if c.moves (resource_at c.before base) (resource_at c.after now)

-- the same of a base that there may be none of
abbrev pub is_base_kept_if : Change → Option (List ℕ) → Option (List ℕ) → Bool
is_base_kept_if c (Some base) (Some now) = is_base_kept c base now
is_base_kept_if c (Some base) None = false
is_base_kept_if c None (Some now) = false
is_base_kept_if c None None = true

abbrev pub is_draft : Draft → Draft → Bool
is_draft a b = bytes_eq (draft_name a) (draft_name b)

-- what a reference leads to is where it moved, of the same draft, and has the same base once it is entered
abbrev pub is_led_kept : Change → Led → Led → Bool
is_led_kept c before after =
    is_moved_if c.moves before.at after.at && (is_draft before.draft after.draft
    && is_base_kept_if c before.base after.base)

-- a reference leads there, or fails by a fault of the same name
abbrev pub is_kept : Change → Answer → Answer → Bool
is_kept c (Leads before) (Leads after) = is_led_kept c before after
is_kept c (Fails before) (Fails after) = bytes_eq before after
is_kept c (Leads before) (Fails after) = false
is_kept c (Fails before) (Leads after) = false

-- ---- dynamic anchors

-- whether a value has a dynamic anchor of a name (2020-12 Core, 8.2.2)
abbrev pub is_dynamic_anchor : List ℕ → List ℕ × Kind → Bool
is_dynamic_anchor name a = is_dynamic a.1 && bytes_eq a.0 name

abbrev pub has_dynamic_anchor : List ℕ → Draft → Data → Bool
has_dynamic_anchor name draft value = list_any (is_dynamic_anchor name) (anchors draft value)

abbrev pub has_dynamic : List ℕ → Answer → Bool
has_dynamic name (Leads led) = has_dynamic_anchor name led.draft led.value
has_dynamic name (Fails fault) = false

-- the name that a fragment is, unless it is empty or a JSON Pointer
abbrev pub name_of : List ℕ → Option (List ℕ)
name_of [] = None
name_of (c ∷ text) = if c == slash then None else Some (c ∷ text)

-- the name, where the answer has a dynamic anchor of it
abbrev pub dynamic_in : Answer → Option (List ℕ) → Option (List ℕ)
dynamic_in a None = None
dynamic_in a (Some name) = if has_dynamic name a then Some name else None

-- The name of the dynamic anchor that a reference leads to: then what it leads to depends on the dynamic scope (8.2.3.2)
abbrev pub dynamic_name : List ℕ → Answer → Option (List ℕ)
dynamic_name reference a = dynamic_in a (name_of (fragment_part reference))

-- a name as a reference
abbrev pub named : List ℕ → List ℕ
named name = hash ∷ name

-- a text before, and the one in its place after
pub record Texts : Type 0 where
  pub text : List ℕ
  pub now : List ℕ

-- whether two tests say the same
abbrev pub is_same_bool : Bool → Bool → Bool
is_same_bool true b = b
is_same_bool false true = false
is_same_bool false false = true

-- A name means the same from two bases: what it leads to, and whether that has a dynamic anchor of the name
abbrev pub is_name_kept : Change → Texts → Answer → Answer → Bool
is_name_kept c names before after =
    is_kept c before after
    && is_same_bool (has_dynamic names.text before) (has_dynamic names.now after)
