-- Literal bundles for rows that compute.
use Prim.Native.String.{String as Literal}
use Rattle.std.specs.Prelude.{ℕ, List, [], ◌∷◌, map, codes, Bool, Option, Some, None, Result, Ok, Err}
use Rattle.serde_json.specs.Data.{Data, object, member, no_members}
use Rattle.ref_paths.specs.Path.{Part}
use Rattle.ref_draft.specs.declared.draft.Draft.TheVariants.{Draft202012}
use Rattle.ref_definitions.specs.World.{Document, Layer}
use Rattle.ref_definitions.specs.Rows.{at, text, one, two, three}
use Rattle.ref_bundle.specs.Needed.{Seen, Further}
use Rattle.ref_bundle.specs.Bundle.{Bundle, BundleRefusal, Problem, Embedded, bundle_at, bundle_with}

-- what is shown of a bundle: its tree, and the numbers of the documents in it; or where it is refused, and why
pub data Shown : Type 0 where
  bundle : Data → List ℕ → Shown
  refused_bundle : ℕ → List Part → Problem → Shown

abbrev pub shown_bundle : Result Bundle BundleRefusal → Shown
shown_bundle (Ok b) = bundle b.value (map (λ (e : Embedded). e.document) b.embedded)
shown_bundle (Err r) = refused_bundle r.document r.path r.problem

-- the bundle of the first document
abbrev pub bundle_of_first : Layer → Shown
bundle_of_first layer = shown_bundle (bundle_at (layer ∷ []) 0)

-- the same above a parent with one document
abbrev pub bundle_above : Document → Layer → Shown
bundle_above parent layer = shown_bundle (bundle_at (layer ∷ (parent ∷ []) ∷ []) 0)

-- the bundle of the first document, where documents have these further places
abbrev pub bundle_with_further : Further → Layer → Shown
bundle_with_further further layer = shown_bundle (bundle_with (layer ∷ []) further 0)

-- a further place of the document with a number, which is at a path and has a reference
abbrev pub seen_at : ℕ → List Part → Literal → Literal → Seen
seen_at number path base reference =
    record {
      document = number;
      path = path;
      value = one "$ref" (text reference);
      draft = Draft202012;
      base = Ok (codes base);
    }

-- a document of 2020-12, one that has a reference, and one that refers to `s`
abbrev pub new : Literal → Data → Document
new uri tree = at Draft202012 uri tree

abbrev pub refers_to : Literal → Document
refers_to reference = new "http://a/r" (one "$ref" (text reference))

abbrev pub refers_to_s : Document
refers_to_s = refers_to "s"

-- a root that refers to `s`, with this as its one definition
abbrev pub with_definition : Literal → Data → Data
with_definition key d = two "$defs" (one key d) "$ref" (text "s")

-- a root that refers to `s` and by this reference, and its bundle with an empty `s`
abbrev pub refers_twice : Literal → Document
refers_twice reference =
    new "http://a/r" (two "$ref" (text "s") "not" (one "$ref" (text reference)))

abbrev pub refers_twice_to_s : Literal → Data
refers_twice_to_s reference =
    three "$defs" (one "http://a/s" (one "$id" (text "http://a/s"))) "$ref" (text "s") "not"
    (one "$ref" (text reference))

-- what is listed of a document
abbrev pub listed_as : ℕ → Literal → Bool → Option Literal → Embedded
listed_as number uri adds_id None =
    record { document = number; uri = codes uri; adds_id = adds_id; schema = None }
listed_as number uri adds_id (Some schema) =
    record { document = number; uri = codes uri; adds_id = adds_id; schema = Some (codes schema) }

-- the bundle of a root whose identifier gives another URI than its own
abbrev pub renamed_root : Data
renamed_root =
    object
    (member (codes "$defs") (one "http://a/s" (one "$id" (text "http://a/s")))
    (member (codes "$id") (text "http://b/t")
    (member (codes "$ref") (text "http://a/s")
    (member (codes "not") (one "$ref" (text "http://a/r")) no_members))))
