-- What value events are, by YAML 1.2.2, sections 3.2.1 and 10. Texts are their bytes.
use Rattle.std.specs.Prelude.{◌≡◌, ℕ, ◌+◌, ◌-◌, Bool, true, false, IsTrue, length, is_some, if◌then◌else◌, List, [], ◌∷◌, ◌++◌, Option, Some, None, ⊤, IsUtf8}
use Rattle.serde_json.specs.Data.{Data, string, array, object, Members, no_members, put}
use Rattle.serde_json.specs.Find.{as_null, as_bool, as_number, as_str, as_array, as_object, get_member}
use Rattle.serde_json.specs.View.{items_of}
use Rattle.ref_yaml.specs.Core.{core_value}
use Rattle.ref_yaml.specs.Events.{is_scalar, IsWithin}
use Rattle.ref_yaml.specs.Scalars.{part, plain_text, single_text, double_text, IsLiteral, IsFolded}
use Rattle.ref_yaml.specs.declared.event.Event.{Event}
use Rattle.ref_yaml.specs.declared.event.Kind.{Kind}
use Rattle.ref_yaml.specs.declared.event.Kind.TheVariants.{BeginArray, EndArray, BeginObject, EndObject, Plain, SingleQuoted, DoubleQuoted, Literal, Folded}
use Rattle.ref_yaml.specs.declared.fault.Stop.{Stop}
use Rattle.ref_yaml.specs.declared.fault.Stop.TheVariants.{Memory, At}
use Rattle.ref_yaml.specs.declared.event.Tag.{Tag}
use Rattle.ref_yaml.specs.declared.event.Tag.TheVariants as tag

-- an event is a scalar, and this its text by its style (7.3, 8.1)
pub record IsText (text : List ℕ) (e : Event) (s : List ℕ) : Type 0 where
  pub is_one : IsTrue (is_scalar e.kind)
  pub plain : e.kind ≡ Plain → s ≡ plain_text (part text e.start e.end)
  pub single : e.kind ≡ SingleQuoted → s ≡ single_text (part text (e.start + 1) (e.end - 1))
  pub double : e.kind ≡ DoubleQuoted → Some s ≡ double_text (part text (e.start + 1) (e.end - 1))
  pub literal : e.kind ≡ Literal → IsLiteral text e.start e.end e.link s
  pub folded : e.kind ≡ Folded → IsFolded text e.start e.end e.link s

-- Why there is no text that is so: memory, or none is.
abbrev pub IsNoText : (List ℕ → Type 0) → Stop → Type 0
IsNoText is Memory = ⊤
IsNoText is (At fault offset) = (s : List ℕ) → IsUtf8 s → is s → ⊥

-- why an event has no text: memory; or it isn't within the text, or no text is its own
abbrev pub IsTextStop : List ℕ → Event → Stop → Type 0
IsTextStop text e stop = IsWithin (length text) e → IsNoText (IsText text e) stop

-- whether a scalar is a text, whatever it says (10.3.2): if it isn't plain, or if its tag asks for one
abbrev pub is_text : Tag → Kind → Bool
is_text tag.None Plain = false
is_text tag.None kind = true
is_text tag.Text kind = true
is_text tag.Any kind = true
is_text other kind = false

-- whether a value has the type that a tag asks for (10.3.1)
abbrev pub fits : Tag → Data → Bool
fits tag.None d = true
fits tag.Any d = true
fits tag.Text d = is_some (as_str d)
fits tag.Int d = is_some (as_number d)
fits tag.Float d = is_some (as_number d)
fits tag.Bool d = is_some (as_bool d)
fits tag.Null d = is_some (as_null d)
fits tag.Array d = is_some (as_array d)
fits tag.Object d = is_some (as_object d)

-- the value of a scalar: its text, or what the core schema makes of it
abbrev pub scalar_value : Event → List ℕ → Option Data
scalar_value e s = if is_text e.tag e.kind then Some (string s) else core_value s

abbrev pub IsScalar : List ℕ → Event → Data → Type 0
IsScalar text e d = (s : List ℕ) × IsText text e s × (scalar_value e s ≡ Some d)

-- Events are a value, up to others that come after it: a scalar; or a beginning, what is in it, and its end.
mutual
  pub data IsValue (text : List ℕ) : List Event → Data → List Event → Type 0 where
    scalar : (e : Event) (d : Data) (rest : List Event) → e.is_key ≡ false → IsScalar text e d → IsTrue (fits e.tag d) → IsValue text (e ∷ rest) d rest
    list : (begin end : Event) (es rest : List Event) (ds : List Data) → begin.is_key ≡ false → begin.kind ≡ BeginArray → end.kind ≡ EndArray
        → AreItems text es ds (end ∷ rest) → IsTrue (fits begin.tag (array (items_of ds))) → IsValue text (begin ∷ es) (array (items_of ds)) rest
    members : (begin end : Event) (es rest : List Event) (ms : Members) → begin.is_key ≡ false → begin.kind ≡ BeginObject → end.kind ≡ EndObject
        → AreMembers text es ms (end ∷ rest) → IsTrue (fits begin.tag (object ms)) → IsValue text (begin ∷ es) (object ms) rest

  -- the values of a list, each after those before it
  pub data AreItems (text : List ℕ) : List Event → List Data → List Event → Type 0 where
    no_item : (es : List Event) → AreItems text es [] es
    one_more_item : (es next rest : List Event) (ds : List Data) (d : Data) → AreItems text es ds next → IsValue text next d rest
        → AreItems text es (ds ++ d ∷ []) rest

  -- the members of an object, each with a key that none before it has
  pub data AreMembers (text : List ℕ) : List Event → Members → List Event → Type 0 where
    no_member : (es : List Event) → AreMembers text es no_members es
    one_more_member : (es next rest : List Event) (ms : Members) (key : Event) (name : List ℕ) (d : Data) → AreMembers text es ms (key ∷ next)
        → key.is_key ≡ true → IsText text key name → get_member name ms ≡ None → IsValue text next d rest
        → AreMembers text es (put name d ms) rest
