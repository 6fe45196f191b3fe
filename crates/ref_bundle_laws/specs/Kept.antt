-- What a bundle keeps of the documents that it is made of.
use Rattle.std.specs.Prelude.{◌≡◌, ℕ, List, [], ◌∷◌, map, filter, drop, not, ◌==◌, slice_get, codes, Some, None, Result, Ok, Err, ◌⊎◌}
use Rattle.std.specs.List.{AllByRecursion, Contains}
use Rattle.std.specs.List.Sorted.{IsStrictlyIncreasing}
use Rattle.serde_json.specs.Data.{Data, object}
use Rattle.serde_json.specs.Find.{get}
use Rattle.ref_paths.specs.Path.{Part, Key}
use Rattle.ref_parts.specs.Pointer.{unescape, tokens}
use Rattle.ref_draft.specs.declared.draft.Draft.{Draft}
use Rattle.ref_draft.specs.Schema.{text_under, identifier, detect}
use Rattle.ref_draft.specs.Children.{InKeyOrder, with_draft}
use Rattle.ref_uri.specs.Targets.{target, fragment_part}
use Rattle.ref_definitions.specs.World.{Document, Layer, World}
use Rattle.ref_definitions.specs.Places.{Place, root, base_within, child_place, places}
use Rattle.ref_definitions.specs.Resources.{meant_place}
use Rattle.ref_definitions.specs.Wants.{faults, open_wants}
use Rattle.ref_definitions.specs.Fault.{Fault, PointerToNowhere}
use Rattle.ref_definitions.specs.Lookup.{Resolver, Found, moved_resolver, lookup}
use Rattle.ref_bundle_laws.specs.Merges.{IsMergeOf}
use Rattle.ref_definitions.specs.Moving.{below_path}
use Rattle.ref_bundle.specs.Needed.{Seen, Further, further_in, referred_from, numbers_of_needed, needed_documents}
use Rattle.ref_bundle.specs.Embedding.{base_uri, embedded_tree}
use Rattle.ref_bundle.specs.Bundle.{Bundle, bundle_with, definitions_keyword, definitions_of, with_all, member_of, pointer_in, uris_of, to_embed}

-- the bundle as a document: under the root's URI, of the root's draft
abbrev pub document_of_bundle : Document → Bundle → Document
document_of_bundle top bundle = record { uri = top.uri; tree = bundle.value; draft = top.draft }

-- the bundle alone, over the parents of the documents that it is made of
abbrev pub world_of_bundle : Document → Bundle → World → World
world_of_bundle top bundle parents = (document_of_bundle top bundle ∷ []) ∷ parents

-- A bundle of the document with a number, among the documents of a registry: they have no fault and no open want, and the
-- members of the root are in byte order of their keys, as those of each value of `serde_json` are.
pub record IsBundle (layer : Layer) (further : Further) (parents : World) (number : ℕ) (top : Document)
    (bundle : Bundle) : Type 0 where
  pub no_fault : faults layer ≡ []
  pub no_want : open_wants (layer ∷ parents) layer ≡ []
  pub root : slice_get layer number ≡ Some top
  pub in_order : InKeyOrder top.tree
  pub is : bundle_with (layer ∷ parents) further number ≡ Ok bundle

-- the path of a document below the root's definitions
abbrev pub path_in : Document → Document → List Part
path_in top d = Key (definitions_keyword top.draft) ∷ Key (base_uri d) ∷ []

-- its place there
abbrev pub place_in : Document → Document → Place
place_in top d =
    child_place [] (base_uri top) (with_draft top.draft (path_in top d, embedded_tree top.draft d))

-- what the places of an embedded document are in the bundle: its root with what was added, and the others below its path
abbrev pub places_of_embedded : Document → ℕ × Document → List Place
places_of_embedded top e =
    place_in top e.1 ∷ map (below_path (path_in top e.1)) (drop 1 (places e.1))

-- and those of the root: the root with what was added, and the others as they are
abbrev pub places_of_root : Document → Bundle → List Place
places_of_root top bundle = root (document_of_bundle top bundle) ∷ drop 1 (places top)

-- The places of a bundle are those of its documents, merged, each document's in their order.
abbrev pub HaveMergedPlaces : Type 0
HaveMergedPlaces =
    (layer : Layer) (further : Further) (parents : World) (number : ℕ) (top : Document) (bundle : Bundle)
    → IsBundle layer further parents number top bundle
    → IsMergeOf Place (places (document_of_bundle top bundle))
    (places_of_root top bundle ∷ map (places_of_embedded top) (to_embed layer further number))

-- a bundle has no fault
abbrev pub HaveNoFault : Type 0
HaveNoFault =
    (layer : Layer) (further : Further) (parents : World) (number : ℕ) (top : Document) (bundle : Bundle)
    → IsBundle layer further parents number top bundle
    → faults (document_of_bundle top bundle ∷ []) ≡ []

-- nor an open want
abbrev pub HaveNoOpenWant : Type 0
HaveNoOpenWant =
    (layer : Layer) (further : Further) (parents : World) (number : ℕ) (top : Document) (bundle : Bundle)
    → IsBundle layer further parents number top bundle
    → open_wants (world_of_bundle top bundle parents) (document_of_bundle top bundle ∷ []) ≡ []

-- ---- look-ups

-- What a value is in the bundle, by the base of the answer: the same; an embedded document as a whole, where that is its base URI,
-- with what was added; or the root, where that is a URI of the root, or what its identifier gives against one.
pub data IsValueNow (layer : Layer) (further : Further) (number : ℕ) (top : Document) (bundle : Bundle) (base : List ℕ)
    (now before : Data) : Type 0 where
  the_same : now ≡ before → IsValueNow layer further number top bundle base now before
  an_embedded : (e : ℕ × Document) → Contains (to_embed layer further number) e → base ≡ base_uri e.1
      → now ≡ embedded_tree top.draft e.1 → before ≡ e.1.tree
      → IsValueNow layer further number top bundle base now before
  the_root : (uri : List ℕ) → Contains (uris_of top (root top)) uri
      → (base ≡ uri) ⊎ (base_within uri (identifier top.draft top.tree) ≡ Ok base)
      → now ≡ bundle.value → before ≡ top.tree
      → IsValueNow layer further number top bundle base now before

-- What a look-up returns in the bundle, and what it returned: such a value, with the same draft, base and scope, or the same
-- fault.
abbrev pub IsAnswerNow : Layer → Further → ℕ → Document → Bundle → Result Found Fault → Result Found Fault
    → Type 0
IsAnswerNow layer further number top bundle (Ok now) (Ok before) =
    IsValueNow layer further number top bundle now.resolver.base now.value before.value
    × (now.draft ≡ before.draft) × (now.resolver ≡ before.resolver)
IsAnswerNow layer further number top bundle (Err now) (Err before) = now ≡ before
IsAnswerNow layer further number top bundle (Ok now) (Err before) = ⊥
IsAnswerNow layer further number top bundle (Err now) (Ok before) = ⊥

-- a fragment that is a pointer of these keys (RFC 6901, sections 3, 4 and 6)
pub record IsPointerOf (fragment : List ℕ) (keys : List (List ℕ)) : Type 0 where
  pub text : List ℕ
  pub is : pointer_in fragment ≡ Some text
  pub all : map unescape (tokens text) ≡ keys

-- the definitions of a bundle's root: its own, and the embedded documents
abbrev pub definitions_now : Layer → Further → ℕ → Document → Data
definitions_now layer further number top =
    object (with_all (map (member_of top.draft) (to_embed layer further number)) (definitions_of top))

-- What a look-up by a pointer to the root's definitions returns in the bundle, and what it returned: all of them in place of the
-- root's own, with the same draft, base and scope; or, where the root had none, all of them, and the fault that it led nowhere.
pub data AreDefinitionsNow (layer : Layer) (further : Further) (number : ℕ) (top : Document) (r : Resolver)
    (pointer : List ℕ) (now before : Result Found Fault) : Type 0 where
  more_than : (own : Found) → get (definitions_keyword top.draft) top.tree ≡ Some own.value
      → now ≡ Ok (record own { value = definitions_now layer further number top }) → before ≡ Ok own
      → AreDefinitionsNow layer further number top r pointer now before
  new_ones : get (definitions_keyword top.draft) top.tree ≡ None
      → now
      ≡ Ok (record { value = definitions_now layer further number top; draft = top.draft; resolver = r })
      → before ≡ Err (PointerToNowhere pointer)
      → AreDefinitionsNow layer further number top r pointer now before

-- a text that a value has under `$ref` or `$dynamicRef`
abbrev pub RefersBy : Data → List ℕ → Type 0
RefersBy value reference =
    (text_under (codes "$ref") value ≡ Some reference)
    ⊎ (text_under (codes "$dynamicRef") value ≡ Some reference)

-- a URI that a place of a needed document has, and that its root's identifier doesn't replace by another
pub record IsBorneByNeeded (layer : Layer) (further : Further) (number : ℕ) (uri : List ℕ) : Type 0 where
  pub document : ℕ × Document
  pub needed : Contains (needed_documents layer further number) document
  pub place : Place
  pub there : Contains (places document.1) place
  pub bears : Contains (uris_of document.1 place) uri
  pub stays : document.1.uri ≡ uri → base_uri document.1 ≡ uri

-- a reference by a pointer from the root to exactly its definitions
pub record PointsToDefinitions (layer : Layer) (further : Further) (parents : World) (number : ℕ) (top : Document)
    (r : Resolver) (reference : List ℕ) (now before : Result Found Fault) : Type 0 where
  pub uri : List ℕ
  pub to : target r.base reference ≡ Ok uri
  pub meant : meant_place (layer ∷ parents) uri ≡ Some (root top)
  pub pointer : IsPointerOf (fragment_part reference) (definitions_keyword top.draft ∷ [])
  pub answers : AreDefinitionsNow layer further number top (moved_resolver r uri) (fragment_part reference)
      now before

-- A reference of a place of a needed document, from its base and a scope of URIs that needed places have and no root's
-- identifier replaces: the look-up in the bundle returns what it returned, or it is one of the root's definitions.
abbrev pub KeepsReferences : Type 0
KeepsReferences =
    (layer : Layer) (further : Further) (parents : World) (number : ℕ) (top : Document) (bundle : Bundle)
    → IsBundle layer further parents number top bundle
    → (e : ℕ × Document) (p : Place) (base reference : List ℕ) (scope : List (List ℕ))
    → Contains (needed_documents layer further number) e → Contains (places e.1) p → p.base ≡ Ok base
    → RefersBy p.value reference
    → AllByRecursion (IsBorneByNeeded layer further number) scope
    → let r : Resolver = record { base = base; scope = scope } in
    let now = lookup (world_of_bundle top bundle parents) r reference in
    let before = lookup (layer ∷ parents) r reference in
    IsAnswerNow layer further number top bundle now before
    ⊎ PointsToDefinitions layer further parents number top r reference now before

-- a base that a needed place has, as the URIs of a scope are, or that no place has
abbrev pub IsBaseOfNeeded : Layer → Further → World → ℕ → List ℕ → Type 0
IsBaseOfNeeded layer further parents number base =
    IsBorneByNeeded layer further number base ⊎ (meant_place (layer ∷ parents) base ≡ None)

-- A reference of a further place of a needed document, from such a base: the same.
abbrev pub KeepsFurtherReferences : Type 0
KeepsFurtherReferences =
    (layer : Layer) (further : Further) (parents : World) (number : ℕ) (top : Document) (bundle : Bundle)
    → IsBundle layer further parents number top bundle
    → (e : ℕ × Document) (s : Seen) (base reference : List ℕ) (scope : List (List ℕ))
    → Contains (needed_documents layer further number) e → Contains (further_in further e.0) s
    → s.base ≡ Ok base → RefersBy s.value reference
    → IsBaseOfNeeded layer further parents number base
    → AllByRecursion (IsBorneByNeeded layer further number) scope
    → let r : Resolver = record { base = base; scope = scope } in
    let now = lookup (world_of_bundle top bundle parents) r reference in
    let before = lookup (layer ∷ parents) r reference in
    IsAnswerNow layer further number top bundle now before
    ⊎ PointsToDefinitions layer further parents number top r reference now before

-- ---- what is embedded

-- a document is needed: the root, or one that a needed one refers to
pub data IsNeeded (layer : Layer) (further : Further) (number : ℕ) : ℕ → Type 0 where
  root_is : IsNeeded layer further number number
  referred_by : (by next : ℕ) → IsNeeded layer further number by → Contains (referred_from layer further by) next
      → IsNeeded layer further number next

-- The numbers of what is needed are in the order of documents, each once, and are those of the root and of what needed
-- documents refer to.
pub record AreNeeded (layer : Layer) (further : Further) (number : ℕ) (numbers : List ℕ) : Type 0 where
  pub in_order : IsStrictlyIncreasing numbers
  pub all : (n : ℕ) → IsNeeded layer further number n → Contains numbers n
  pub only : (n : ℕ) → Contains numbers n → IsNeeded layer further number n

-- A bundle embeds what is needed but the root. One that embeds nothing is its document as it is.
pub record EmbedsNeeded (layer : Layer) (further : Further) (number : ℕ) (top : Document)
    (bundle : Bundle) : Type 0 where
  pub needed_numbers : AreNeeded layer further number (numbers_of_needed layer further number)
  pub embeds : map (λ e. e.document) bundle.embedded
      ≡ filter (λ n. not (n == number)) (numbers_of_needed layer further number)
  pub alone : bundle.embedded ≡ [] → bundle.value ≡ top.tree

-- so does each bundle
abbrev pub EmbedWhatIsNeeded : Type 0
EmbedWhatIsNeeded =
    (layer : Layer) (further : Further) (parents : World) (number : ℕ) (top : Document) (bundle : Bundle)
    → IsBundle layer further parents number top bundle
    → EmbedsNeeded layer further number top bundle

-- A reader of any draft reads a bundle by the draft by which it reads the root: that of the root's `$schema`, or its own
-- where the root has none (2020-12 Core, 8.1.1).
abbrev pub AreReadAsTheirRoots : Type 0
AreReadAsTheirRoots =
    (layer : Layer) (further : Further) (parents : World) (number : ℕ) (top : Document) (bundle : Bundle)
    → IsBundle layer further parents number top bundle
    → (reader : Draft) → detect reader bundle.value ≡ detect reader top.tree
