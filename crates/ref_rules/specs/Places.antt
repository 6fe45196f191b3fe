-- The places of a document where schemas are.
use Rattle.std.specs.Prelude.{◌≡◌, List, ◌∷◌, map, flat_map, true, false}
use Rattle.serde_json.specs.Data.{Data}
use Rattle.ref_draft.specs.declared.draft.Draft.{Draft}
use Rattle.ref_draft.specs.Schema.{detect}
use Rattle.ref_draft.specs.Children.{walked_children}
use Rattle.ref_rules.specs.Slips.{Place}

-- the root, read by the draft that it names, or else by a given one
abbrev pub root : Draft → Data → Place
root d value = record { is_root = true; draft = detect d value; value = value }

-- the subschemas right below a place, each read by the draft that it names, or else by that of the place
abbrev pub below : Place → List Place
below p =
    map (λ w. record { is_root = false; draft = w.draft; value = w.value }) (walked_children p.draft p.value)

-- The root, and after it the subschemas right below each of these places in turn
abbrev pub ArePlaces : Draft → Data → List Place → Type 0
ArePlaces d value places = places ≡ root d value ∷ flat_map below places
