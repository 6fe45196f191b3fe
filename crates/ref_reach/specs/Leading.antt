-- Where the references of places lead, and what is wrong with them.
use Rattle.std.specs.Prelude.{ℕ, ◌-◌, nat_lt, ◌==◌, Bool, true, false, not, ◌&&◌, ◌||◌, List, [], ◌∷◌, ◌++◌, length, codes, bytes_eq, is_some, if◌then◌else◌, Option, Some, None, option_map, option_and_then, unwrap_or, slice_get, Result, Ok, Err}
use Rattle.std.specs.Option.{option_map_or}
use Rattle.std.specs.List.{list_any}
use Rattle.std.specs.Result.{result_ok}
use Rattle.serde_json.specs.Data.{Data}
use Rattle.serde_json.specs.Find.{get}
use Rattle.ref_paths.specs.Path.{Part, value_at}
use Rattle.ref_parts.specs.Pointer.{pointer_text}
use Rattle.ref_draft.specs.declared.draft.Draft.{Draft}
use Rattle.ref_draft.specs.Keywords.{is_unknown}
use Rattle.ref_draft.specs.Schema.{text_under, from_schema_uri, detect}
use Rattle.ref_draft.specs.Children.{is_object}
use Rattle.ref_uri.specs.Targets.{Refusal, target, fragment_part}
use Rattle.ref_definitions.specs.World.{Layer}
use Rattle.ref_definitions.specs.Fault as fault
use Rattle.ref_definitions.specs.Fault.{Fault}
use Rattle.ref_definitions.specs.Lookup.{Resolver, Found, lookup}
use Rattle.ref_index.specs.Spots.{Spot}
use Rattle.ref_resolver.specs.Locations.{lookup_location}
use Rattle.ref_descriptions.specs.declared.version.Version.{Version}
use Rattle.ref_descriptions.specs.declared.kind.Kind.{Kind}
use Rattle.ref_descriptions.specs.declared.reading.Reading.{Reading}
use Rattle.ref_descriptions.specs.Versions.{version_name, version_of}
use Rattle.ref_descriptions.specs.Fields.{kind_name}
use Rattle.ref_descriptions.specs.Readings.{has_drafts, is_schema_of_a_draft}
use Rattle.ref_descriptions.specs.References.{Reference}
use Rattle.ref_reach.specs.Places.{Place, place_with, identifier_of, own_at}

-- What is known of documents: their URIs and trees, the places that descriptions have by themselves, which parts of which
-- documents have URIs of their own, and what references are looked up in: the documents, and after them those parts
pub record Known : Type 0 where
  pub uris : List (List ℕ)
  pub trees : List Data
  pub own : List Place
  pub parts : List (ℕ × List Part)
  pub layer : Layer

-- what is wrong with a reference, or is noted
pub data Problem : Type 0 where
  NotAText : Problem
  InvalidUri : Refusal → Problem
  MissingDocument : List ℕ → Problem
  LeadsNowhere : List ℕ → Fault → Problem
  -- the URI that it points into, the kind of what is there, and the kind that is needed
  WrongKind : List ℕ → Kind → Kind → Problem
  Unchecked : List ℕ → Problem

-- what a reference is: it leads to a place that no description has by itself; or to what is a place anyhow, or is no object;
-- or it is wrong
pub data Outcome : Type 0 where
  Leads : Place → Outcome
  Nothing : Outcome
  Wrong : Problem → Outcome

-- the version of the document with a number, where it is a description
abbrev pub version_at : Known → ℕ → Option Version
version_at known number = option_and_then version_of (slice_get known.trees number)

-- ---- what was found

-- a value that was found: in which document and where, its draft and base by the look-up
pub record Target : Type 0 where
  pub document : ℕ
  pub path : List Part
  pub value : Data
  pub draft : Draft
  pub base : List ℕ

-- the document and the path of what is in one of the documents, or in a part of one
abbrev pub origin : Known → Spot → Option (ℕ × List Part)
origin known at =
    if nat_lt at.document (length known.uris) then Some (at.document, at.path)
    else option_map (λ part. (part.0, part.1 ++ at.path))
    (slice_get known.parts (at.document - length known.uris))

-- what is at a path of a document
abbrev pub target_at : Known → Found → ℕ × List Part → Option Target
target_at known found at =
    option_map
    (λ value. record {
      document = at.0;
      path = at.1;
      value = value;
      draft = found.draft;
      base = found.resolver.base;
    })
    (option_and_then (λ tree. value_at tree at.1) (slice_get known.trees at.0))

-- what a look-up found
abbrev pub target_found : Known → Found → Spot → Option Target
target_found known found at = option_and_then (target_at known found) (origin known at)

-- whether the root of a document names its draft
abbrev pub names_draft : Known → ℕ → Bool
names_draft known number =
    option_map_or (λ tree. is_some (text_under (codes "$schema") tree))
    (slice_get known.trees number) false

-- the draft around a value: that of the look-up, unless a description refers to it and its document names none
abbrev pub draft_around : Known → Reading → Target → Draft
draft_around known from t =
    if is_some from.version && not (names_draft known t.document) then from.draft else t.draft

-- How a value is read that a reference leads to: as an object of the kind that is needed, by the version of the description
-- that the reference is in
abbrev pub reading_led : Known → Reading → Kind → Target → Reading
reading_led known from wanted t =
    if is_schema_of_a_draft (record from { kind = wanted })
    then record from { kind = wanted; draft = detect (draft_around known from t) t.value }
    else record from { kind = wanted }

-- whether a path is that of a root
abbrev pub is_root : List Part → Bool
is_root [] = true
is_root (part ∷ path) = false

-- the base around it: the URI of its document, where it is the root of that, or identifiers mean nothing; else that of the
-- look-up
abbrev pub base_around : Known → Reading → Target → List ℕ
base_around known r t =
    if is_root t.path || not (is_schema_of_a_draft r)
    then unwrap_or (slice_get known.uris t.document) t.base
    else t.base

-- its identifier counts where it is the root of a document: a look-up enters others by theirs
abbrev pub identifier_led : Reading → Target → Option (List ℕ)
identifier_led r t = if is_root t.path then identifier_of r t.value else None

-- the place of a value that no description has by itself
abbrev pub place_led : Known → Reading → Target → Place
place_led known r t =
    place_with t.document t.path t.value r (base_around known r t) (identifier_led r t)

-- whether two kinds, or two versions, are the same
abbrev pub is_kind : Kind → Kind → Bool
is_kind k l = bytes_eq (kind_name k) (kind_name l)

abbrev pub version_text : Option Version → List ℕ
version_text None = codes "-"
version_text (Some version) = version_name version

abbrev pub is_version : Option Version → Option Version → Bool
is_version v w = bytes_eq (version_text v) (version_text w)

-- a value that a description has as a place by itself: it is of that kind, and is a place anyhow unless another version
-- refers to it
abbrev pub led_to_own : Known → Reading → Kind → List ℕ → Target → Place → Outcome
led_to_own known from wanted uri t own =
    if not (is_kind own.reading.kind wanted)
    then Wrong (WrongKind uri own.reading.kind wanted)
    else (if is_version own.reading.version from.version then Nothing
    else Leads
    (place_with t.document t.path t.value (reading_led known from wanted t) own.base None))

-- what a reference is that leads to this value
abbrev pub led : Known → Reading → Kind → List ℕ → Target → Outcome
led known from wanted uri t =
    if not (is_object t.value) then Nothing
    else option_map_or (led_to_own known from wanted uri t)
    (own_at known.own t.document (pointer_text t.path))
    (Leads (place_led known (reading_led known from wanted t) t))

-- by the answer of a look-up, and where that is
abbrev pub target_by_answer : Known → Result Found Fault → Option (ℕ × Spot) → Option Target
target_by_answer known (Ok found) at = option_and_then (λ l. target_found known found l.1) at
target_by_answer known (Err fault) at = None

-- what is looked up at a base, with an empty dynamic scope
abbrev pub at_base : List ℕ → Resolver
at_base base = record { base = base; scope = [] }

-- what a text of a place leads to, as a reference
abbrev pub target_by_text : Known → Place → List ℕ → Option Target
target_by_text known p text =
    target_by_answer known (lookup (known.layer ∷ []) (at_base p.base) text)
    (lookup_location (known.layer ∷ []) (at_base p.base) text)

-- ---- what was not found

-- where nothing is under its URI: a document is missing, unless it is the meta-schema of a draft, whose fragments aren't
-- looked up
abbrev pub missing : List ℕ → List ℕ → Outcome
missing uri text =
    if is_unknown (from_schema_uri uri) then Wrong (MissingDocument uri)
    else (if length (fragment_part text) == 0 then Nothing else Wrong (Unchecked uri))

-- whether a version has schemas of JSON Schema
abbrev pub is_with_drafts : Option Version → Bool
is_with_drafts version = is_some version && has_drafts version

-- whether a URI is that of a description whose schemas may have anchors: these aren't collected
abbrev pub is_with_anchors : Known → List ℕ → Option Found → Option (ℕ × Spot) → Bool
is_with_anchors known uri (Some found) (Some at) =
    is_with_drafts (version_at known at.1.document)
is_with_anchors known uri found at = false

abbrev pub has_anchors : Known → List ℕ → Bool
has_anchors known uri =
    is_with_anchors known uri
    (result_ok (lookup (known.layer ∷ []) (at_base uri) (codes "#")))
    (lookup_location (known.layer ∷ []) (at_base uri) (codes "#"))

-- by the fault of its look-up
abbrev pub by_fault : Known → List ℕ → List ℕ → Fault → Outcome
by_fault known uri text (fault.Unretrievable wanted why) = missing uri text
by_fault known uri text (fault.NoSuchAnchor name) =
    if has_anchors known uri then Wrong (Unchecked uri)
    else Wrong (LeadsNowhere uri (fault.NoSuchAnchor name))
by_fault known uri text other = Wrong (LeadsNowhere uri other)

-- ---- a reference

-- by the answer of its look-up, and where that is
abbrev pub by_answer : Known → Reading → Kind → List ℕ → List ℕ → Result Found Fault
    → Option (ℕ × Spot) → Outcome
by_answer known from wanted uri text (Ok found) at =
    option_map_or (led known from wanted uri)
    (option_and_then (λ l. target_found known found l.1) at) Nothing
by_answer known from wanted uri text (Err fault) at = by_fault known uri text fault

-- by the URI that it points into
abbrev pub by_target : Known → Place → Kind → List ℕ → Result (List ℕ) Refusal → Outcome
by_target known p wanted text (Err refusal) = Wrong (InvalidUri refusal)
by_target known p wanted text (Ok uri) =
    by_answer known p.reading wanted uri text
    (lookup (known.layer ∷ []) (at_base p.base) text)
    (lookup_location (known.layer ∷ []) (at_base p.base) text)

-- a text of a place that is to lead to a kind: it is looked up from the base of the place
abbrev pub text_outcome : Known → Place → Kind → List ℕ → Outcome
text_outcome known p wanted text = by_target known p wanted text (target p.base text)

-- whether the root of a description has a schema of a name among its components
abbrev pub has_schema : List ℕ → Data → Bool
has_schema name root =
    is_some
    (option_and_then (get name)
    (option_and_then (get (codes "schemas")) (get (codes "components") root)))

-- whether it is a description that has
abbrev pub names_in : List ℕ → Data → Bool
names_in name root = is_some (version_of root) && has_schema name root

-- whether a text in a mapping is the name of a schema: of the description that it is in, or, in a document that is none, of
-- any (3.0 on, "Discriminator Object")
abbrev pub is_name : Known → ℕ → List ℕ → Bool
is_name known document text =
    if is_some (version_at known document)
    then option_map_or (names_in text) (slice_get known.trees document) false
    else list_any (names_in text) known.trees

-- whether a reference is in a mapping
abbrev pub is_mapped : Reference → Bool
is_mapped r = not (is_root r.within)

-- a reference of a place with this text
abbrev pub outcome_of : Known → Place → Reference → List ℕ → Outcome
outcome_of known p r text =
    if is_mapped r && is_name known p.document text then Nothing
    else text_outcome known p r.wanted text

-- what a reference of a place is
abbrev pub outcome : Known → Place → Reference → Outcome
outcome known p r = option_map_or (outcome_of known p r) r.text (Wrong NotAText)
