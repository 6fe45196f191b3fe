-- What documents that are appended to a layer leave: a URI that means a place still means one, and so a want stays met.
use Rattle.std.specs.Prelude.{◌≡◌, ℕ, false, List, ◌∷◌, ◌++◌, filter, is_some, IsTrue}
use Rattle.ref_definitions.specs.World.{Layer, World}
use Rattle.ref_definitions.specs.Resources.{meant_place}
use Rattle.ref_definitions.specs.Wants.{Want, is_open, open_wants}

-- a URI means a place
abbrev pub HasMeaning : World → List ℕ → Type 0
HasMeaning world uri = IsTrue (is_some (meant_place world uri))

-- What means a place still means one, perhaps another, after documents are appended to the own layer
abbrev pub MeaningsStay : Type 0
MeaningsStay =
    (layer more : Layer) (parents : World) (uri : List ℕ) → HasMeaning (layer ∷ parents) uri
    → HasMeaning ((layer ++ more) ∷ parents) uri

-- What means a place in a registry means one in each registry that has it as a parent
abbrev pub MeaningsStayBelow : Type 0
MeaningsStayBelow =
    (layer : Layer) (parents : World) (uri : List ℕ) → HasMeaning parents uri
    → HasMeaning (layer ∷ parents) uri

-- a want that is met stays met
abbrev pub MetWantsStay : Type 0
MetWantsStay =
    (layer more : Layer) (parents : World) (want : Want)
    → is_open (layer ∷ parents) want ≡ false → is_open ((layer ++ more) ∷ parents) want ≡ false

-- the wants that are open then: of those that were open before, those that stay so, and after them those of what was appended
abbrev pub OpenWantsAfter : Type 0
OpenWantsAfter =
    (layer more : Layer) (parents : World)
    → open_wants ((layer ++ more) ∷ parents) (layer ++ more)
    ≡ filter (is_open ((layer ++ more) ∷ parents)) (open_wants (layer ∷ parents) layer)
    ++ open_wants ((layer ++ more) ∷ parents) more
