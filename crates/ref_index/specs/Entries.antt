-- That an entry of an index is that of a place of its documents.
use Rattle.std.specs.Prelude.{◌≡◌, ℕ, List, map, slice_get, Bool, true, false, Some, Ok, IfSome, Option, None, MatchOption}
use Rattle.serde_json.specs.View.{view}
use Rattle.ref_paths.specs.Path.{value_at}
use Rattle.ref_draft.specs.Anchors.{Kind, Plain, Dynamic}
use Rattle.ref_paths.specs.Segment.{part_of}
use Rattle.ref_paths.specs.declared.path.JsonPointerSegment.{JsonPointerSegment}
use Rattle.ref_definitions.specs.World.{Document, Layer}
use Rattle.ref_definitions.specs.Places.{Place}
use Rattle.ref_definitions.specs.Anchors.{Named}
use Rattle.ref_index.specs.declared.entry.Entry.{Entry}
use Rattle.std.specs.Borrow.{Bor}
use Rattle.ref_index.specs.declared.entry.FoundName.{FoundName}

-- a path in one of a layer's documents leads to a place's value
pub record IsPathOf (layer : Layer) (number : ℕ) (parts : List JsonPointerSegment) (p : Place)
    : Type 0 where
  pub document : Document
  pub numbered : slice_get layer number ≡ Some document
  pub path : map part_of parts ≡ p.path
  pub value : value_at document.tree p.path ≡ Some p.value

-- an entry describes a place: where it is in one of a layer's documents, and its value where its document is borrowed
pub record IsEntryOf (layer : Layer) (e : Entry) (p : Place) : Type 0 where
  pub path : IsPathOf layer e.document e.path.items p
  pub borrowed : IfSome e.borrowed (λ value. view value.now ≡ p.value)
  pub draft : e.draft ≡ p.draft
  pub base : p.base ≡ Ok e.base.value

-- an anchor's kind
abbrev pub kind_of : Bool → Kind
kind_of true = Dynamic
kind_of false = Plain

-- an entry is that of the place that was found
abbrev pub IsFoundAt : Layer → Entry → Option (List ℕ × Place) → Type 0
IsFoundAt layer e found = (r : List ℕ × Place) × (found ≡ Some r) × IsEntryOf layer e r.1

-- an entry is that of the place that was found, or there is neither
abbrev pub IsFoundWhere : Layer → Option (Bor Entry) → Option (List ℕ × Place) → Type 0
IsFoundWhere layer o found = MatchOption o (found ≡ None) (λ e. IsFoundAt layer e.now found)

-- an entry is that of the name that was found
abbrev pub IsNamedAt : Layer → FoundName → Option Named → Type 0
IsNamedAt layer e found =
    (n : Named) × (found ≡ Some n) × (kind_of e.named.now.is_dynamic ≡ n.kind)
    × IsEntryOf layer e.entry.now n.place
