-- Places by their addresses.
use Rattle.std.specs.Prelude.{◌≡◌, ℕ, List, [], ◌∷◌, ◌++◌, map, flat_map, decimal, bytes_eq, if◌then◌else◌, slice_get, String, Vec}
use Rattle.std.specs.declared.alloc.Global.{Global}
use Rattle.std.specs.Option.{option_map_or, option_to_list}
use Rattle.std.specs.BTreeMap.{BTreeMap, get_by_text}
use Rattle.ref_reach.specs.Places.{Place}
use Rattle.ref_reach.specs.Views.{place_of}
use Rattle.ref_changes.specs.Moves.{Address, address_of}
use Rattle.ref_comparison.specs.declared.after.After.{After}
use Rattle.ref_comparison.specs.declared.after.Number.{Number}
use Rattle.ref_comparison.specs.declared.after.Which.{Which}
use Rattle.ref_comparison.specs.declared.after.Which.TheVariants.{Own, Described, Led}
use Rattle.ref_comparison.specs.Further.{spot_of}

-- an address as a text
abbrev pub address_text : Address → List ℕ
address_text a = decimal a.document ++ a.pointer

-- that of a place
abbrev pub text_at : Place → List ℕ
text_at p = address_text (address_of (spot_of p))

-- a place, where a text is that of its address
abbrev pub placed_at : List ℕ → Place → List Place
placed_at q p = if bytes_eq q (text_at p) then p ∷ [] else []

-- the lists of a survey
pub record Lists : Type 0 where
  pub own : List Place
  pub described : List Place
  pub led : List Place

abbrev pub list_of : Lists → Which → List Place
list_of l Own = l.own
list_of l Described = l.described
list_of l Led = l.led

-- the place with a number, where there is one
abbrev pub with_number : Lists → Number → List Place
with_number l n = option_to_list (slice_get (list_of l n.list) n.index)

-- the numbers that a map has for a text, and their places
abbrev pub numbers_at : BTreeMap (String Global) (Vec Number Global) → List ℕ → List Number
numbers_at numbers q = option_map_or (λ g. g.items) (get_by_text numbers q) []

abbrev pub group_in : Lists → BTreeMap (String Global) (Vec Number Global) → List ℕ → List Place
group_in l numbers q = flat_map (with_number l) (numbers_at numbers q)

-- all places, and that those at each address are found
abbrev pub lists_in : After → Lists
lists_in a =
    record {
      own = map place_of a.own.now;
      described = map place_of a.described.now;
      led = map place_of a.led.now;
    }

abbrev pub places_in : After → List Place
places_in a = map place_of a.own.now ++ map place_of a.described.now ++ map place_of a.led.now

abbrev pub IsGrouped : After → Type 0
IsGrouped a = (q : List ℕ) → group_in (lists_in a) a.numbers q ≡ flat_map (placed_at q) (places_in a)
