-- Documents that are given as texts of YAML, and the values that they are read as.
use Rattle.std.specs.Prelude.{◌≡◌, ◌≢◌, ◌≤◌, ℕ, List, [], ◌∷◌, length, codes, slice_get, Bool, true, false, if◌then◌else◌, Option, None, Some, option_map, option_and_then, Result, Ok, Err}
use Rattle.serde_json.specs.Data.{Data, string, array, object, Members, no_members, member}
use Rattle.serde_json.specs.View.{items_of}
use Rattle.serde_json.specs.Find.{get, as_str}
use Rattle.ref_yaml.specs.Documents.{IsYamlOf}
use Rattle.ref_definitions.specs.Results.{◌>>=◌}
use Rattle.ref_calls.specs.Objects.{object_of, list_of}
use Rattle.ref_calls.specs.Errors.{not_yaml, in_field, with_field, with_index}
use Rattle.ref_calls.specs.Calls.{required_member, text_in, document_of}

-- ---- a text

-- the value of a text of YAML; or its error, with a reason, a sentence, and a place within the text or at its end
abbrev pub IsYamlRead : List ℕ → Result Data Data → Type 0
IsYamlRead text (Ok value) = IsYamlOf text value
IsYamlRead text (Err error) =
    (reason : List ℕ) × (sentence : List ℕ) × (offset : ℕ) × (offset ≤ length text)
    × (error ≡ not_yaml reason sentence offset)

-- ---- a document

-- whether an object has one member
abbrev pub has_one_member : Members → Bool
has_one_member (member k d no_members) = true
has_one_member other = false

-- the text that stands for a schema: an object whose only member is `yaml`, a text
abbrev pub yaml_text : Data → Option (List ℕ)
yaml_text (object ms) =
    if has_one_member ms then option_and_then as_str (get (codes "yaml") (object ms)) else None
yaml_text other = None

-- the text of the URI and that of the schema, of a document that is given so
abbrev pub yaml_document : Data → Option (List ℕ × List ℕ)
yaml_document d =
    option_and_then (λ p. option_map (λ text. (p.0, text)) (yaml_text p.1)) (document_of d)

-- the document with the value of its text
abbrev pub with_value : List ℕ → Data → Data
with_value uri value = list_of (string uri ∷ value ∷ [])

-- an item of a list of documents, which stays where it isn't given so
abbrev pub IsDocumentRead : Option (List ℕ × List ℕ) → Data → Result Data Data → Type 0
IsDocumentRead None d outcome = outcome ≡ Ok d
IsDocumentRead (Some document) d outcome =
    (read : Result Data Data) × IsYamlRead document.1 read
    × (outcome ≡ (read >>= λ value. Ok (with_value document.0 value)))

abbrev pub IsItemRead : Data → Result Data Data → Type 0
IsItemRead d outcome = IsDocumentRead (yaml_document d) d outcome

-- ---- lists of documents

-- each item is read
abbrev pub AreRead : List Data → List Data → Type 0
AreRead [] [] = Unit {0}
AreRead (d ∷ ds) (e ∷ es) = IsItemRead d (Ok e) × AreRead ds es
AreRead ds es = ⊥

-- the error of an item, with its number
abbrev pub IsItemError : List Data → Data → Type 0
IsItemError ds error =
    (n : ℕ) × (d : Data) × (found : Data) × (slice_get ds n ≡ Some d) × IsItemRead d (Err found)
    × (error ≡ with_index n found)

-- a list of documents; what is no list stays
abbrev pub IsListRead : List ℕ → Data → Result Data Data → Type 0
IsListRead field (array items) (Ok e) =
    (ds : List Data) × (es : List Data) × (items ≡ items_of ds) × (e ≡ list_of es) × AreRead ds es
IsListRead field (array items) (Err error) =
    (ds : List Data) × (found : Data) × (items ≡ items_of ds) × IsItemError ds found
    × (error ≡ with_field field found)
IsListRead field other outcome = outcome ≡ Ok other

-- ---- members

-- the list under a member, where it is there
abbrev pub IsMemberRead : List ℕ → Option Data → Option Data → Type 0
IsMemberRead field None after = after ≡ None
IsMemberRead field (Some d) after =
    (e : Data) × (after ≡ Some e) × IsListRead field d (Ok e)

-- the error of the list under a member
abbrev pub IsMemberError : List ℕ → Option Data → Data → Type 0
IsMemberError field found error =
    (d : Data) × (found ≡ Some d) × IsListRead field d (Err error)

-- ---- calls

-- a member of one call and of another
abbrev pub IsFieldRead : List ℕ → Data → Data → Type 0
IsFieldRead field d e = IsMemberRead field (get field d) (get field e)

abbrev pub IsFieldError : List ℕ → Data → Data → Type 0
IsFieldError field d error = IsMemberError field (get field d) error

-- The call with the values of the texts of YAML under `documents`, `remote` and `parent`.
pub record HasValues (d e : Data) : Type 0 where
  pub documents : IsFieldRead (codes "documents") d e
  pub remote : IsFieldRead (codes "remote") d e
  pub parent : IsFieldRead (codes "parent") d e
  pub others : (key : List ℕ) → key ≢ codes "documents" → key ≢ codes "remote"
      → key ≢ codes "parent" → get key e ≡ get key d

-- the error of one of these texts
pub data IsTextError (d error : Data) : Type 0 where
  OfDocuments : IsFieldError (codes "documents") d error → IsTextError d error
  OfRemote : IsFieldError (codes "remote") d error → IsTextError d error
  OfParent : IsFieldError (codes "parent") d error → IsTextError d error

-- a call whose texts of YAML are read
abbrev pub IsCallRead : Data → Result Data Data → Type 0
IsCallRead d (Ok e) = HasValues d e
IsCallRead d (Err error) = IsTextError d error

-- ---- `yaml`

-- the object of a value
abbrev pub value_object : Data → Data
value_object value = object_of ((codes "value", value) ∷ [])

abbrev pub IsYamlAsked : Result (List ℕ) Data → Result Data Data → Type 0
IsYamlAsked (Ok text) outcome =
    (read : Result Data Data) × IsYamlRead text read
    × (outcome ≡ (in_field (codes "text") read >>= λ value. Ok (value_object value)))
IsYamlAsked (Err error) outcome = outcome ≡ Err error

-- `yaml`: the value of a text
unfoldable pub IsYaml : Data → Result Data Data → Type 0
IsYaml d outcome =
    IsYamlAsked (required_member (codes "text") d >>= text_in (codes "text")) outcome
