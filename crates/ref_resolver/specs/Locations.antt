-- Where the value is that a look-up returns: in the document with which number, of the layer with which number, and at which
-- path there.
use Rattle.std.specs.Prelude.{◌≡◌, ℕ, suc, ◌==◌, List, [], ◌∷◌, ◌++◌, map, flat_map, codes, slice_get, Option, Some, None, option_map, option_and_then, Result, Ok, Err, if◌then◌else◌}
use Rattle.std.specs.List.{take_while, last_or}
use Rattle.std.specs.Option.{option_or, option_map_or, unwrap_or}
use Rattle.std.specs.Result.{result_ok}
use Rattle.percent_encoding.specs.Percent.{percent_decode}
use Rattle.serde_json.specs.Data.{Data}
use Rattle.ref_paths.specs.Path.{Part, value_at}
use Rattle.ref_parts.specs.Pointer.{slash, tokens}
use Rattle.ref_paths.specs.Segment.{part_of}
use Rattle.ref_draft.specs.Anchors.{Kind, Plain, Dynamic}
use Rattle.ref_uri.specs.Targets.{target, fragment_part}
use Rattle.ref_definitions.specs.World.{Document, Layer, World}
use Rattle.ref_definitions.specs.Resources.{own_uri, meant_place}
use Rattle.ref_definitions.specs.Anchors.{Named, anchor}
use Rattle.ref_definitions.specs.Fault.{Fault}
use Rattle.ref_definitions.specs.Pointers.{step_into}
use Rattle.ref_definitions.specs.Lookup.{Resolver, Found, lookup, moved_resolver, in_scope, entry_of, outermost}
use Rattle.ref_definitions.specs.Recursive.{answers_marked}
use Rattle.ref_error.specs.declared.error.Error.{Error}
use Rattle.ref_error.specs.Errors.{IsFaultOf}
use Rattle.ref_index.specs.Spots.{Spot, spot_under, spot_named}
use Rattle.ref_resolver.specs.declared.location.Location.{Location}

-- where the place is that a URI means, with the number of the nearest layer that has one, of layers counted from this
-- number on
abbrev pub uri_spot_from : ℕ → World → List ℕ → Option (ℕ × Spot)
uri_spot_from number [] uri = None
uri_spot_from number (layer ∷ world) uri =
    option_or (option_map (λ s. (number, s)) (spot_under uri layer))
    (uri_spot_from (suc number) world uri)

-- in a world, whose own layer has the number 0
abbrev pub uri_spot : World → List ℕ → Option (ℕ × Spot)
uri_spot world uri = uri_spot_from 0 world uri

-- the same of the place that a name means under a URI
abbrev pub name_spot_from : ℕ → World → List ℕ → List ℕ → Option (ℕ × Spot)
name_spot_from number [] uri name = None
name_spot_from number (layer ∷ world) uri name =
    option_or (option_map (λ s. (number, s)) (spot_named uri name layer))
    (name_spot_from (suc number) world uri name)

abbrev pub name_spot : World → List ℕ → List ℕ → Option (ℕ × Spot)
name_spot world uri name = name_spot_from 0 world uri name

-- of what an anchor means: the name there, or else the one under the base of the place there
abbrev pub anchor_spot : World → List ℕ → List ℕ → Option (ℕ × Spot)
anchor_spot world uri name =
    option_or (name_spot world uri name)
    (option_and_then (λ own. name_spot world own name)
    (option_and_then own_uri (meant_place world uri)))

-- the URI under which the place is found that a name leads to: the base, or by a dynamic anchor the outermost of the scope
abbrev pub naming_uri : World → Resolver → Named → Kind → List ℕ
naming_uri world r n Plain = r.base
naming_uri world r n Dynamic =
    (outermost (r.base, n) (flat_map entry_of (in_scope world n.name r.scope))).0

-- the parts that tokens are, as far as they lead somewhere from a value
abbrev pub parts_along : List ℕ → Data → List (List ℕ) → List Part
parts_along pointer value [] = []
parts_along pointer value (token ∷ tokens) =
    option_map_or (λ s. s.0 ∷ parts_along pointer s.1 tokens)
    (result_ok (step_into pointer value token)) []

-- a place, and the parts that a pointer goes on with from there
abbrev pub with_parts : List Part → ℕ × Spot → ℕ × Spot
with_parts parts at =
    (at.0, record { document = at.1.document; path = at.1.path ++ parts })

-- what a pointer leads to in the resource that a URI means
abbrev pub pointer_spot : World → List ℕ → List ℕ → List ℕ → Option (ℕ × Spot)
pointer_spot world uri pointer text =
    option_and_then (λ p. option_map
    (with_parts (parts_along pointer p.value (tokens (percent_decode text))))
    (uri_spot world uri))
    (meant_place world uri)

-- what a fragment means in the resource that a resolver is at
abbrev pub fragment_spot : World → Resolver → List ℕ → Option (ℕ × Spot)
fragment_spot world r [] = uri_spot world r.base
fragment_spot world r (c ∷ text) =
    if c == slash then pointer_spot world r.base (c ∷ text) text
    else option_and_then (λ n. anchor_spot world (naming_uri world r n n.kind) (c ∷ text))
    (result_ok (anchor world r.base (c ∷ text)))

-- Where the value is that a reference leads to: the number of its layer, that of its document there, and its path. Where a
-- pointer is unresolvable, it is where its last part ends that leads somewhere, and means nothing.
unfoldable pub lookup_location : World → Resolver → List ℕ → Option (ℕ × Spot)
lookup_location world r reference =
    option_and_then (λ uri. fragment_spot world (moved_resolver r uri) (fragment_part reference))
    (result_ok (target r.base reference))

-- the reference that a recursive one stands for: the last URI of the longest beginning of the scope whose values are marked,
-- where that of the base is marked too; else `#`
abbrev pub recursive_reference : World → Resolver → List ℕ
recursive_reference world r =
    if answers_marked (lookup world r (codes "#")) then
    unwrap_or (last_or None (take_while (λ uri. answers_marked (lookup world r uri)) r.scope))
    (codes "#")
    else codes "#"

-- a location of the program: the number of its layer, and where in it
abbrev pub location_view : Location → ℕ × Spot
location_view l = (l.layer, record { document = l.document; path = map part_of l.path.items })

-- The value is at the path in the document with this number, of the layer with this number.
pub record IsValueAt (w : World) (l : Location) (value : Data) : Type 0 where
  pub layer : Layer
  pub in_world : slice_get w l.layer ≡ Some layer
  pub document : Document
  pub in_layer : slice_get layer l.document ≡ Some document
  pub there : value_at document.tree (map part_of l.path.items) ≡ Some value

-- a look-up leads somewhere, and the value that it returns is there
abbrev pub IsWhere : World → Result Found Fault → Location → Type 0
IsWhere w answer l = (found : Found) × (answer ≡ Ok found) × IsValueAt w l found.value

-- a call says where the value is that a look-up returns, or the fault of the look-up
abbrev pub GivesWhere : World → Result Found Fault → Result Location Error → Type 0
GivesWhere w answer (Ok l) = IsWhere w answer l
GivesWhere w answer (Err error) = IsFaultOf answer error
