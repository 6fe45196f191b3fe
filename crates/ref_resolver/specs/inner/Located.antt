-- What a call has of a place that was looked up.
use Rattle.std.specs.Prelude.{◌≡◌, ℕ, List, slice_get, Option, option_map, IfSome, None, Some, Ok, refl}
use Rattle.std.specs.Result.{result_ok}
use Rattle.std.specs.declared.alloc.Global.{Global}
use Rattle.std.specs.declared.rc.Rc.{Rc}
use Rattle.std.specs.Coded.{Coded, coded×, coded_ℕ, coded_list, coded_option}
use base.Stored.{Coded-set}
use Rattle.serde_json.specs.Data.{Data}
use Rattle.serde_json.specs.View.{view}
use Rattle.ref_draft.specs.declared.draft.Draft.{Draft}
use Rattle.ref_definitions.specs.World.{Layer, World}
use Rattle.ref_definitions.specs.Places.{Place}
use Rattle.ref_definitions.specs.Anchors.{Named}
use Rattle.ref_definitions.specs.Resources.{meant_place}
use Rattle.ref_index.specs.Entries.{IsPathOf, kind_of}
use Rattle.ref_index.specs.Codes.{tree_code, draft_code}
use Rattle.ref_resolver.specs.Layered.{world_in}
use Rattle.ref_resolver.specs.declared.layers.Layers.{Layers}
use Rattle.ref_resolver.specs.declared.located.Located.{Located}
use Rattle.ref_resolver.specs.declared.located.LocatedName.{LocatedName}
use Rattle.ref_resolver.specs.declared.located.Numbered.{Numbered}
use Rattle.ref_resolver.specs.declared.located.NumberedName.{NumberedName}

-- the value, draft and base of a place
pub record IsLocated (l : Located) (p : Place) : Type 0 where
  pub value : view l.value.now ≡ p.value
  pub draft : l.entry.now.draft ≡ p.draft
  pub base : p.base ≡ Ok l.entry.now.base.value

-- and a path in one of the documents of a layer that leads to it
pub record IsLocatedIn (layer : Layer) (l : Located) (p : Place) : Type 0 where
  pub place : IsLocated l p
  pub path : IsPathOf layer l.entry.now.document l.entry.now.path.items p

-- the same in the layer of a world with this number
pub record IsLocatedAt (w : World) (l : Numbered) (p : Place) : Type 0 where
  pub layer : Layer
  pub numbered : slice_get w l.layer ≡ Some layer
  pub there : IsLocatedIn layer l.place p

-- of the place that a URI means
abbrev pub IsMeant : Option Place → Located → Type 0
IsMeant found l = (p : Place) × (found ≡ Some p) × IsLocated l p

-- what is said of a place
abbrev PlaceParts : Type 0
PlaceParts = Data × (Draft × Option (List ℕ))

abbrev place_parts : Place → PlaceParts
place_parts p = (p.value, (p.draft, result_ok p.base))

-- of the place that a URI means, as an equation
abbrev pub IsKnown : Option Place → Located → Type 0
IsKnown found l =
    option_map place_parts found
    ≡ Some (view l.value.now, (l.entry.now.draft, Some l.entry.now.base.value))

parts_code : Coded (Option PlaceParts)
parts_code =
    coded_option (coded× tree_code (coded× draft_code (coded_option (coded_list coded_ℕ))))

-- which has one proof at most
known_once : (place : Option Located) (found : Option Place)
    → IsProp (IfSome place (IsKnown found))
known_once None found = λ _ _. refl
known_once (Some l) found = Coded-set parts_code _ _

-- a place that a resolver keeps, where it keeps one, is the one that its base means
abbrev pub KnowsPlace : Layers → Rc (List ℕ) Global → Option Located → Type 0
KnowsPlace layers base place = IfSome place (IsKnown (meant_place (world_in layers) base.value))

pub knows_once : (layers : Layers) (base : Rc (List ℕ) Global) (place : Option Located)
    → IsProp (KnowsPlace layers base place)
knows_once layers base place = known_once place (meant_place (world_in layers) base.value)

-- of the place that a URI means in a layer
abbrev pub IsMeantIn : Layer → Option Place → Located → Type 0
IsMeantIn layer found l = (p : Place) × (found ≡ Some p) × IsLocatedIn layer l p

-- of the place that a URI means in a world
abbrev pub IsMeantAt : World → Option Place → Numbered → Type 0
IsMeantAt w found l = (p : Place) × (found ≡ Some p) × IsLocatedAt w l p

-- the kind of an anchor, and the place that it names
abbrev pub IsNameOf : LocatedName → Named → Type 0
IsNameOf l n = (kind_of l.named.now.is_dynamic ≡ n.kind) × IsLocated l.place n.place

-- in a layer
abbrev pub IsNameIn : Layer → LocatedName → Named → Type 0
IsNameIn layer l n = (kind_of l.named.now.is_dynamic ≡ n.kind) × IsLocatedIn layer l.place n.place

-- in a world
abbrev pub IsNameAt : World → NumberedName → Named → Type 0
IsNameAt w l n = (kind_of l.named.now.is_dynamic ≡ n.kind) × IsLocatedAt w l.place n.place

-- of what a name means
abbrev pub IsNamed : Option Named → LocatedName → Type 0
IsNamed found l = (n : Named) × (found ≡ Some n) × IsNameOf l n

-- of what a name means in a layer
abbrev pub IsNamedIn : Layer → Option Named → LocatedName → Type 0
IsNamedIn layer found l = (n : Named) × (found ≡ Some n) × IsNameIn layer l n

-- of what a name means in a world
abbrev pub IsNamedAt : World → Option Named → NumberedName → Type 0
IsNamedAt w found l = (n : Named) × (found ≡ Some n) × IsNameAt w l n
