-- One document in place of several (2020-12 Core, 9.3), or why there is none.
use Rattle.std.specs.Prelude.{ℕ, ◌==◌, Bool, false, not, ◌&&◌, if◌then◌else◌, List, [], ◌∷◌, ◌++◌, flat_map, map, filter, codes, bytes_eq, slice_get, is_some, Option, Some, None, option_map, option_and_then, Result, Ok, Err}
use Rattle.std.specs.List.{last_or}
use Rattle.std.specs.Option.{option_map_or, option_to_list}
use Rattle.std.specs.Result.{result_ok}
use Rattle.std.specs.Str.{is_utf8}
use Rattle.percent_encoding.specs.Percent.{percent_decode}
use Rattle.serde_json.specs.Data.{Data, object, Members, no_members, put}
use Rattle.serde_json.specs.Find.{get, get_member, as_object}
use Rattle.ref_paths.specs.Path.{Part, Key, path_eq}
use Rattle.ref_parts.specs.Pointer.{slash, unescape, tokens}
use Rattle.ref_draft.specs.declared.draft.Draft.{Draft}
use Rattle.ref_draft.specs.Keywords.{id_keyword, is_before_2019}
use Rattle.ref_draft.specs.Children.{is_object}
use Rattle.ref_uri.specs.Targets.{uri_against}
use Rattle.ref_definitions.specs.World.{Document, Layer, World, local_documents}
use Rattle.ref_definitions.specs.Places.{Place, identifier_of, places}
use Rattle.ref_definitions.specs.Resources.{own_uri, meant_place}
use Rattle.ref_bundle.specs.Needed.{Site, sites_of_uris, site_under, document_under, Reference, references_from, references, Seen, Further, further_in, is_among, numbers_of_needed, needed_documents}
use Rattle.ref_bundle.specs.Embedding.{Obstacle, NotAnObject, base_uri, added_schema, embedded_tree, with_member, is_added_under, obstacle}

-- a document that a bundle has under its definitions: its number, its base URI, whether a member for it was added or
-- the one there replaced, and the `$schema` that was added
pub record Embedded : Type 0 where
  pub document : ℕ
  pub uri : List ℕ
  pub adds_id : Bool
  pub schema : Option (List ℕ)

-- a bundle: its tree, and the documents in it but for the root, in the order of documents
pub record Bundle : Type 0 where
  pub value : Data
  pub embedded : List Embedded

-- why there is no bundle
pub data Problem : Type 0 where
  -- no document has the number of the root
  NoDocument : Problem
  -- a document that is needed can't be embedded, or a root can't have others
  NotEmbedded : Obstacle → Problem
  -- what the root has under the keyword of definitions is no object
  NoMap : Problem
  -- the root's definitions have this key, which is the base URI of a document that is needed
  KeyTaken : List ℕ → Problem
  -- a place has a URI that another has too: that place's document and path
  SharedUri : List ℕ → ℕ → List Part → Problem
  -- a place refers to a document by its URI, in place of which its root's identifier gives another one
  ReplacedUri : List ℕ → List ℕ → Problem
  -- a place refers to a name in a place of a parent, by a URI against which that place's identifier gives this URI, which
  -- an own place has: its document and path
  ShadowedUri : List ℕ → List ℕ → ℕ → List Part → Problem
  -- a place refers with a pointer to a member that the bundle adds, or of which it has another value: in the document with
  -- this URI, under this key of its root, or of its definitions where it is the bundle's root
  AddedMember : List ℕ → List ℕ → Problem

-- a problem, with the document and the path that it is at
pub record BundleRefusal : Type 0 where
  pub document : ℕ
  pub path : List Part
  pub problem : Problem

-- ---- the tree

-- the keyword of definitions (Draft 7 Validation, 9; 2019-09 Core, 8.2.5)
abbrev pub definitions_keyword : Draft → List ℕ
definitions_keyword draft = if is_before_2019 draft then codes "definitions" else codes "$defs"

-- members with these put among them
abbrev pub with_all : List (List ℕ × Data) → Members → Members
with_all [] ms = ms
with_all (e ∷ es) ms = with_all es (put e.0 e.1 ms)

-- the member of a document below a root of this draft
abbrev pub member_of : Draft → ℕ × Document → List ℕ × Data
member_of draft e = (base_uri e.1, embedded_tree draft e.1)

-- the members of an object, or none
abbrev pub members_or_none : Option Members → Members
members_or_none None = no_members
members_or_none (Some ms) = ms

-- the definitions that a root has
abbrev pub definitions_of : Document → Members
definitions_of top =
    members_or_none (option_and_then as_object (get (definitions_keyword top.draft) top.tree))

-- the tree of a root with documents under its definitions: its own where there are none
abbrev pub tree_with : Document → List (ℕ × Document) → Data
tree_with top [] = top.tree
tree_with top (e ∷ es) =
    with_member (definitions_keyword top.draft)
    (object (with_all (map (member_of top.draft) (e ∷ es)) (definitions_of top))) top.tree

-- what is listed of a document
abbrev pub embedded_document : Draft → ℕ × Document → Embedded
embedded_document draft e = record {
  document = e.0;
  uri = base_uri e.1;
  adds_id = not (is_some (get (id_keyword e.1.draft) e.1.tree));
  schema = added_schema draft e.1;
}

-- ---- the refusals

-- whether two are one
abbrev pub is_site : Site → Site → Bool
is_site s t = (s.0 == t.0) && path_eq s.1 t.1

-- the last of the other places that have a URI
abbrev pub other_bearer : List (List ℕ × Site) → List ℕ → Site → Option Site
other_bearer entries uri site =
    option_map_or (λ e. Some e.1)
    (last_or None (filter (λ e. bytes_eq e.0 uri && not (is_site e.1 site)) entries)) None

-- the problem of a URI that a place has, where another has it too
abbrev pub shared_uri : List (List ℕ × Site) → Site → List ℕ → List Problem
shared_uri entries site uri =
    option_map_or (λ other. SharedUri uri other.0 other.1 ∷ []) (other_bearer entries uri site) []

-- the URIs that a place has: at the root that of the document, and by its own identifier its base
abbrev pub uris_of : Document → Place → List (List ℕ)
uris_of d p = (if path_eq p.path [] then d.uri ∷ [] else []) ++ option_to_list (own_uri p)

-- the problem of a URI that a place refers to, where it is that of an embedded document, in place of which its root's
-- identifier gives another
abbrev pub replaced_in : List ℕ → Document → List Problem
replaced_in uri d =
    if bytes_eq d.uri uri && not (bytes_eq (base_uri d) uri) then ReplacedUri uri (base_uri d) ∷ []
    else []

-- the URI that the identifier of a place gives against one that means the place
abbrev pub identified_from : List ℕ → Place → Option (List ℕ)
identified_from uri p = option_and_then (λ id. result_ok (uri_against uri id)) (identifier_of p)

-- whether a fragment is a name: not empty, and no pointer
abbrev pub is_name : List ℕ → Bool
is_name [] = false
is_name (c ∷ text) = not (c == slash)

-- the problem of a name in a place of a parent, where an own place has the URI that the identifier of that place gives: the
-- name, which is looked up under the first URI, may be one of the own place
abbrev pub shadowed_uri : Layer → World → Reference → Option Problem
shadowed_uri layer world r =
    if is_name r.fragment then
    option_and_then
    (λ base. option_map (λ s. ShadowedUri r.uri base s.0 s.1) (site_under layer base))
    (option_and_then (identified_from r.uri) (meant_place world r.uri))
    else None

-- the text of a fragment that is a pointer, after its first `/` (RFC 6901, sections 3 and 6)
abbrev pub pointer_in : List ℕ → Option (List ℕ)
pointer_in [] = None
pointer_in (c ∷ text) =
    if (c == slash) && is_utf8 (percent_decode text) then Some (percent_decode text) else None

-- the key of such a text with this number (RFC 6901, sections 3 and 4)
abbrev pub key_at : ℕ → List ℕ → Option (List ℕ)
key_at number text = option_map unescape (slice_get (tokens text) number)

-- its second key, where the first is this one
abbrev pub second_key : List ℕ → List ℕ → Option (List ℕ)
second_key first text =
    if option_map_or (λ key. bytes_eq key first) (key_at 0 text) false then key_at 1 text else None

-- the problem of a pointer from the root of an embedded document to what is added there, or has another value
abbrev pub added_in : Draft → Reference → Document → List Problem
added_in draft r d =
    option_map_or
    (λ key. if is_added_under draft d key then AddedMember r.uri key ∷ [] else [])
    (option_and_then (key_at 0) (pointer_in r.fragment)) []

-- the problems of a reference to a place of an embedded document, below a root of this draft
abbrev pub embedded_problems : Draft → Reference → List Part → Document → List Problem
embedded_problems draft r path d =
    replaced_in r.uri d ++ (if path_eq path [] then added_in draft r d else [])

-- whether a document, by its number, is one that has to be embedded, and has this base URI
abbrev pub is_embedded_as : Layer → Further → ℕ → List ℕ → ℕ → Bool
is_embedded_as layer further top uri number =
    not (number == top) && is_among (numbers_of_needed layer further top) number
    && option_map_or (λ d. bytes_eq (base_uri d) uri) (slice_get layer number) false

-- whether a bundle adds the definition under this key: an embedded document's, by its base URI
abbrev pub is_added_definition : Layer → Further → ℕ → List ℕ → Bool
is_added_definition layer further top key =
    option_map_or (is_embedded_as layer further top key) (document_under layer key) false

-- the problem of a pointer from the root to a definition that is added, or to what is below it
abbrev pub added_definition : Layer → Further → ℕ × Document → Reference → List Problem
added_definition layer further top r =
    option_map_or
    (λ key. if is_added_definition layer further top.0 key then AddedMember r.uri key ∷ []
    else [])
    (option_and_then (second_key (definitions_keyword top.1.draft)) (pointer_in r.fragment)) []

-- the problems of a reference to a place of the root's document
abbrev pub root_problems : Layer → Further → ℕ × Document → Reference → List Part → List Problem
root_problems layer further top r path =
    if path_eq path [] then added_definition layer further top r else []

-- the problems of a reference, by the own place that its URI means, or else by the place of a parent
abbrev pub reference_problems_by : Layer → Further → World → ℕ × Document → Reference
    → Option Site → List Problem
reference_problems_by layer further world top r None =
    option_to_list (shadowed_uri layer world r)
reference_problems_by layer further world top r (Some s) =
    if s.0 == top.0 then root_problems layer further top r s.1
    else option_map_or (embedded_problems top.1.draft r s.1) (slice_get layer s.0) []

abbrev pub reference_problems : Layer → Further → World → ℕ × Document → Reference → List Problem
reference_problems layer further world top r =
    reference_problems_by layer further world top r (site_under layer r.uri)

-- the problems of a place of a needed document: of the URIs that it has, then of what it refers to
abbrev pub place_problems : Layer → Further → World → ℕ × Document → ℕ × Document → Place
    → List Problem
place_problems layer further world top e p =
    flat_map (shared_uri (sites_of_uris layer) (e.0, p.path)) (uris_of e.1 p)
    ++ flat_map (reference_problems layer further world top) (references p)

-- the problems of a place that is seen: of what it refers to
abbrev pub seen_problems : Layer → Further → World → ℕ × Document → Seen → List Problem
seen_problems layer further world top s =
    flat_map (reference_problems layer further world top) (references_from s.base s.value)

-- a problem at a path of a document
abbrev pub at_path : ℕ → List Part → Problem → BundleRefusal
at_path number path problem = record { document = number; path = path; problem = problem }

-- the refusals of the places of a needed document
abbrev pub place_refusals : Layer → Further → World → ℕ × Document → ℕ × Document
    → List BundleRefusal
place_refusals layer further world top e =
    flat_map (λ p. map (at_path e.0 p.path) (place_problems layer further world top e p))
    (places e.1)

-- those of its further places
abbrev pub seen_refusals : Layer → Further → World → ℕ × Document → Seen → List BundleRefusal
seen_refusals layer further world top s =
    map (at_path s.document s.path) (seen_problems layer further world top s)

abbrev pub further_refusals : Layer → Further → World → ℕ × Document → ℕ → List BundleRefusal
further_refusals layer further world top number =
    flat_map (seen_refusals layer further world top) (further_in further number)

-- a key that the definitions have already
abbrev pub taken_key : ℕ → List ℕ → Members → ℕ × Document → List BundleRefusal
taken_key top keyword ms e =
    if is_some (get_member (base_uri e.1) ms) then
    at_path top (Key keyword ∷ Key (base_uri e.1) ∷ []) (KeyTaken (base_uri e.1)) ∷ []
    else []

-- the refusals of what a root has under the keyword of definitions, where documents have to be there
abbrev pub map_refusals : ℕ → List ℕ → Option Data → List (ℕ × Document) → List BundleRefusal
map_refusals top keyword None es = []
map_refusals top keyword (Some value) es =
    option_map_or (λ ms. flat_map (taken_key top keyword ms) es) (as_object value)
    (at_path top (Key keyword ∷ []) NoMap ∷ [])

-- those of a root: none where no document has to be there; and where it is no object, it has no place for them
abbrev pub root_refusals : ℕ × Document → List (ℕ × Document) → List BundleRefusal
root_refusals top [] = []
root_refusals top (e ∷ es) =
    let keyword =
    definitions_keyword top.1.draft in if is_object top.1.tree then
    map_refusals top.0 keyword (get keyword top.1.tree) (e ∷ es)
    else at_path top.0 [] (NotEmbedded NotAnObject) ∷ []

-- the refusals of a needed document: as a whole, then of its places, and of further ones
abbrev pub refusals_in : Layer → Further → World → ℕ × Document → List (ℕ × Document)
    → ℕ × Document → List BundleRefusal
refusals_in layer further world top es e =
    (if e.0 == top.0 then root_refusals top es
    else map (λ o. at_path e.0 [] (NotEmbedded o)) (option_to_list (obstacle top.1 e.1)))
    ++ place_refusals layer further world top e ++ further_refusals layer further world top e.0

-- all of them, in the order of documents and places
abbrev pub refusals : Layer → Further → World → ℕ × Document → List (ℕ × Document)
    → List BundleRefusal
refusals layer further world top es =
    flat_map (refusals_in layer further world top es) (needed_documents layer further top.0)

-- ---- the bundle

-- the documents that have to be under the definitions of a root, in the order of documents
abbrev pub to_embed : Layer → Further → ℕ → List (ℕ × Document)
to_embed layer further top =
    filter (λ e. not (e.0 == top)) (needed_documents layer further top)

-- the first refusal, or else the bundle
abbrev pub unless_refused : List BundleRefusal → Bundle → Result Bundle BundleRefusal
unless_refused [] bundle = Ok bundle
unless_refused (refusal ∷ more) bundle = Err refusal

-- the bundle of a root with the documents that it needs
abbrev pub bundle_of : Document → List (ℕ × Document) → Bundle
bundle_of top es =
    record { value = tree_with top es; embedded = map (embedded_document top.draft) es }

-- the bundle of a document, by its number among the own documents of a world, or why there is none
abbrev pub bundle_among : Layer → Further → World → ℕ → Result Bundle BundleRefusal
bundle_among layer further world number =
    option_map_or
    (λ top. let es = to_embed layer further number in unless_refused
    (refusals layer further world (number, top) es) (bundle_of top es))
    (slice_get layer number)
    (Err (at_path number [] NoDocument))

-- the same of a world
abbrev pub bundle_with : World → Further → ℕ → Result Bundle BundleRefusal
bundle_with world further number = bundle_among (local_documents world) further world number

-- and without further places
abbrev pub bundle_at : World → ℕ → Result Bundle BundleRefusal
bundle_at world number = bundle_with world [] number
