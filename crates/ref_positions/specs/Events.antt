-- The events of a document of YAML as tokens.
use Rattle.std.specs.Prelude.{◌≡◌, ◌⊎◌, ◌<◌, ◌+◌, ◌-◌, ◌^◌, ℕ, Bool, true, false, IsSome, List, [], ◌∷◌, ◌++◌, Option, Some, ⊤, take, length, replicate, slice_get, IsUtf8}
use Rattle.ref_yaml.specs.Values.{IsText}
use Rattle.ref_yaml.specs.declared.event.Event.{Event}
use Rattle.ref_yaml.specs.declared.event.Kind.{Kind}
use Rattle.ref_yaml.specs.declared.event.Kind.TheVariants.{BeginArray, EndArray, BeginObject, EndObject, Plain, SingleQuoted, DoubleQuoted, Literal, Folded, Alias}
use Rattle.ref_positions.specs.Paths.{Path, number_of}
use Rattle.ref_positions.specs.Parts.{Token, key, object, array, scalar, close, Next, value, name, nothing, next, Part, begun, parts, passed}
use Rattle.ref_positions.specs.Walks.{IsWalk, IsCounted, not_found}
use Rattle.ref_positions.specs.declared.walk.Found.{Found}
use Rattle.ref_positions.specs.declared.walk.Walk.{Walk}
use Rattle.ref_yaml.specs.declared.document.Document.{Document}

-- a key comes in an object whose path has a number
abbrev pub IsAsked : List (Option Path) → Next → Type 0
IsAsked paths (value p) = ⊥
IsAsked paths (name p) = IsSome (number_of paths p)
IsAsked paths nothing = ⊥

-- a key, with the event's text where it is asked for
abbrev pub IsKeyOf : List ℕ → List (Option Path) → Next → Event → Token → Type 0
IsKeyOf text paths before e t = (k : List ℕ) × (t ≡ key k e.start) × (IsAsked paths before → IsText text e k)

abbrev pub IsScalarOf : List ℕ → List (Option Path) → Next → Event → Bool → Token → Type 0
IsScalarOf text paths before e true t = IsKeyOf text paths before e t
IsScalarOf text paths before e false t = t ≡ scalar e.start

abbrev pub IsTokenOf : List ℕ → List (Option Path) → Next → Event → Kind → Token → Type 0
IsTokenOf text paths before e BeginObject t = t ≡ object e.start
IsTokenOf text paths before e BeginArray t = t ≡ array e.start
IsTokenOf text paths before e EndObject t = t ≡ close
IsTokenOf text paths before e EndArray t = t ≡ close
IsTokenOf text paths before e Alias t = t ≡ scalar e.start
IsTokenOf text paths before e Plain t = IsScalarOf text paths before e e.is_key t
IsTokenOf text paths before e SingleQuoted t = IsScalarOf text paths before e e.is_key t
IsTokenOf text paths before e DoubleQuoted t = IsScalarOf text paths before e e.is_key t
IsTokenOf text paths before e Literal t = IsScalarOf text paths before e e.is_key t
IsTokenOf text paths before e Folded t = IsScalarOf text paths before e e.is_key t

-- the tokens of events
abbrev pub AreTokens : List ℕ → List (Option Path) → Next → List Event → List Token → Type 0
AreTokens text paths before [] [] = ⊤
AreTokens text paths before [] (t ∷ ts) = ⊥
AreTokens text paths before (e ∷ es) [] = ⊥
AreTokens text paths before (e ∷ es) (t ∷ ts) = (IsTokenOf text paths before e e.kind t) × (AreTokens text paths (next before t) es ts)

-- an event is passed as one of its tokens
abbrev pub Takes : List ℕ → List (Option Path) → Walk → Walk → ℕ → Event → Type 0
Takes text paths old new n e = (before : Next) (ps : List Part) → n < 2 ^ 64 - 1 → IsWalk paths old n before ps
    → (t : Token) × (IsTokenOf text paths before e e.kind t) × (IsWalk paths new (n + 1) (next before t) (ps ++ begun before n t))

-- a key in an object whose path has a number, and which has no text
abbrev pub IsUnnamed : List ℕ → List (Option Path) → Next → Event → Type 0
IsUnnamed text paths before e = (e.is_key ≡ true) × (IsAsked paths before) × ((s : List ℕ) → IsUtf8 s → IsText text e s → ⊥)

-- an event isn't passed, since it is such a key
abbrev pub Stops : List ℕ → List (Option Path) → Walk → Event → Type 0
Stops text paths w e = (n : ℕ) (before : Next) (ps : List Part) → IsWalk paths w n before ps → IsUnnamed text paths before e

-- there is such a key in events, after the tokens of those before it
abbrev pub HasUnnamed : List ℕ → List (Option Path) → List Event → Type 0
HasUnnamed text paths events = (n : ℕ) × (e : Event) × (slice_get events n ≡ Some e) × (ts : List Token) × (AreTokens text paths (value []) (take n events) ts)
    × (IsUnnamed text paths (passed (value []) ts) e)

-- so many events were passed
abbrev pub ArePassed : List ℕ → List (Option Path) → Walk → List Event → ℕ → Type 0
ArePassed text paths walk events n = (ts : List Token) × (AreTokens text paths (value []) (take n events) ts) × (length ts ≡ n) × (IsWalk paths walk n (passed (value []) ts) (parts (value []) 0 ts))

-- what counts in events
abbrev pub AreFoundIn : List ℕ → List (Option Path) → List Event → List Found → Type 0
AreFoundIn text paths events found = (ts : List Token) × (AreTokens text paths (value []) events ts) × (IsCounted paths found (parts (value []) 0 ts))

-- what counts in a text of YAML: nothing, or what does in its document
abbrev pub AreFoundInYaml : List ℕ → List (Option Path) → List Found → Type 0
AreFoundInYaml text paths found = (found ≡ replicate (length paths) not_found) ⊎ ((document : Document) × (document.text.now ≡ text) × (AreFoundIn text paths document.events.items found))
