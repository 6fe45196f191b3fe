-- What is wrong with the references of documents, and what is to be noted.
use Rattle.std.specs.Prelude.{ℕ, Bool, false, ◌&&◌, ◌||◌, not, is_some, ◌==◌, List, [], ◌∷◌, ◌++◌, map, flat_map, length, codes, bytes_eq, if◌then◌else◌, slice_get, Option, Some, None, option_map, option_and_then, Result, Ok, Err}
use Rattle.std.specs.Option.{option_to_list, option_map_or}
use Rattle.std.specs.List.{list_any, find, enumerate_from}
use Rattle.serde_json.specs.Data.{Data}
use Rattle.serde_json.specs.Find.{get, as_str}
use Rattle.ref_draft.specs.declared.draft.Draft.{Draft}
use Rattle.ref_draft.specs.declared.draft.Draft.TheVariants.{Draft4, Draft6, Draft7, Draft201909, Draft202012, Unknown}
use Rattle.ref_draft.specs.Keywords.{is_unknown, id_keyword, is_before_2019}
use Rattle.ref_draft.specs.Schema.{text_under, trimmed_text, from_schema_uri}
use Rattle.ref_draft.specs.Anchors.{Kind, Plain, Dynamic, anchors}
use Rattle.ref_paths.specs.Path.{Part}
use Rattle.ref_parts.specs.Table.{Entry, is_under, last_value, pair_count}
use Rattle.ref_uri.specs.Targets.{Refusal, target, fragment_part}
use Rattle.ref_definitions.specs.World.{Layer, World}
use Rattle.ref_definitions.specs.Places.{Place, identifier_of}
use Rattle.ref_definitions.specs.Resources.{meant_place}
use Rattle.ref_draft.specs.MetaSchemas as meta_schemas
use Rattle.ref_definitions.specs.Wants.{schema_uri}
use Rattle.ref_definitions.specs.Fault as fault
use Rattle.ref_definitions.specs.Fault.{Fault}
use Rattle.ref_definitions.specs.Lookup.{Found, lookup}
use Rattle.ref_findings.specs.Places.{nearest_base, dynamic_keyword}
use Rattle.ref_findings.specs.Sources.{Source, places_in, read_document, world_of, unread_uris}
use Rattle.ref_findings.specs.Guessed.{is_guessed, uris_referred, referrer, root_uri, has_item_list}
use Rattle.ref_findings.specs.Bearers.{Site, sites, source_uri, uris_borne, names_borne, first_under, other_bearer, in_source, begins_with_slash}

-- what is wrong, or is noted; a duplicate has the number of the source and the path of the first place that has the text, and
-- a guessed draft the draft, the source and the path of the first place that refers to the document
pub data Problem : Type 0 where
  NotJson : Problem
  NotChecked : Problem
  NotAText : Problem
  RecursiveElsewhere : Problem
  NamesNothing : Problem
  InvalidUri : Refusal → Problem
  MissingDocument : List ℕ → Problem
  LeadsNowhere : List ℕ → Fault → Problem
  Unchecked : List ℕ → Problem
  UnknownDialect : List ℕ → Problem
  DuplicateIdentifier : List ℕ → ℕ → List Part → Problem
  DuplicateAnchor : List ℕ → ℕ → List Part → Problem
  GuessedDraft : Draft → ℕ → List Part → Problem
  ListOfItems : Problem

-- a finding: the number of the source, the path of the place, the keyword there and the text under it, and what is wrong
pub record Finding : Type 0 where
  pub source : ℕ
  pub path : List Part
  pub keyword : Option (List ℕ)
  pub text : Option (List ℕ)
  pub problem : Problem

-- what is known of all sources: the documents that references are looked up in, and those of each source alone, the
-- URIs of those that are no JSON, the places, and which URIs and which names these have
pub record Known : Type 0 where
  pub world : World
  pub own : List Layer
  pub unread : List (Entry ℕ)
  pub sites : List Site
  pub uris : List (Entry ℕ)
  pub names : List (Entry ℕ)

-- whether there is an entry of a URI
abbrev pub is_among : List ℕ → List (Entry ℕ) → Bool
is_among uri entries = list_any (is_under uri []) entries

-- whether a URI is that of a meta-schema of a draft
unfoldable pub is_meta_schema : List ℕ → Bool
is_meta_schema uri =
    not (is_unknown (from_schema_uri uri))
    || list_any (λ known. bytes_eq (trimmed_text known) uri) meta_schemas.uris

-- ---- a URI that several sources have

-- whether two places are in two sources
abbrev pub are_apart : Option Site → Option Site → Bool
are_apart None other = false
are_apart (Some s) None = false
are_apart (Some s) (Some t) = not (s.0 == t.0)

-- whether the first place that has a URI and the last one are in two sources
abbrev pub is_doubled : Known → List ℕ → Bool
is_doubled known uri =
    are_apart (option_and_then (slice_get known.sites) (first_under uri [] known.uris))
    (option_and_then (slice_get known.sites) (last_value uri [] known.uris))

-- where a reference of a place to a URI is looked up: in all documents, but first in its own one where the URI is its base
-- and several sources have it
abbrev pub world_at : Known → Site → List ℕ → World
world_at known s uri =
    if bytes_eq uri (nearest_base s.1) && is_doubled known uri then
    option_map_or (λ layer. layer ∷ known.world) (slice_get known.own s.0) known.world
    else known.world

-- ---- a reference

-- where nothing is under its URI: a document is missing, unless it is a meta-schema, whose fragments aren't looked up
abbrev pub missing_problem : List ℕ → List ℕ → Option Problem
missing_problem uri reference =
    if is_meta_schema uri then
    (if length (fragment_part reference) == 0 then None else Some (Unchecked uri))
    else Some (MissingDocument uri)

-- by the fault of its look-up
abbrev pub by_fault : List ℕ → List ℕ → Fault → Option Problem
by_fault uri reference (fault.Unretrievable wanted text) = missing_problem uri reference
by_fault uri reference other = Some (LeadsNowhere uri other)

-- by where it leads
abbrev pub by_answer : List ℕ → List ℕ → Result Found Fault → Option Problem
by_answer uri reference (Ok found) = None
by_answer uri reference (Err fault) = by_fault uri reference fault

-- by the URI that it points into: it isn't looked up where that is a URI of a source that is no JSON, and else from
-- its base with an empty dynamic scope
abbrev pub by_target : Known → Site → List ℕ → Result (List ℕ) Refusal → Option Problem
by_target known s reference (Err refusal) = Some (InvalidUri refusal)
by_target known s reference (Ok uri) =
    if is_among uri known.unread then None
    else by_answer uri reference
    (lookup (world_at known s uri) (record { base = nearest_base s.1; scope = [] }) reference)

-- of the text of a reference at a place
abbrev pub reference_problem : Known → Site → List ℕ → Option Problem
reference_problem known s reference =
    by_target known s reference (target (nearest_base s.1) reference)

-- of a value under `$ref` or `$dynamicRef`, which is to be a text
abbrev pub value_problem : Known → Site → Data → Option Problem
value_problem known s value =
    option_map_or (reference_problem known s) (as_str value) (Some NotAText)

-- of the text under `$recursiveRef`, which is `#` (2019-09 Core, 8.2.4.2.1)
abbrev pub recursive_text_problem : List ℕ → Option Problem
recursive_text_problem text =
    if bytes_eq text (codes "#") then None else Some RecursiveElsewhere

-- of a value there
abbrev pub recursive_problem : Data → Option Problem
recursive_problem value = option_map_or recursive_text_problem (as_str value) (Some NotAText)

-- of a value under the keyword that a draft has for dynamic references
abbrev pub dynamic_problem : Draft → Known → Site → Data → Option Problem
dynamic_problem Draft4 known s value = None
dynamic_problem Draft6 known s value = None
dynamic_problem Draft7 known s value = None
dynamic_problem Draft201909 known s value = recursive_problem value
dynamic_problem Draft202012 known s value = value_problem known s value
dynamic_problem Unknown known s value = value_problem known s value

-- ---- a `$schema`

-- whether a URI is that of a meta-schema, known or among the sources
abbrev pub is_dialect : Known → List ℕ → Bool
is_dialect known uri =
    is_meta_schema uri || (is_among uri known.unread || is_some (meant_place known.world uri))

-- by the URI that it names
abbrev pub by_dialect : Known → Result (List ℕ) Refusal → Option Problem
by_dialect known (Err refusal) = Some (InvalidUri refusal)
by_dialect known (Ok uri) = if is_dialect known uri then None else Some (UnknownDialect uri)

-- of a text under `$schema`, where that is no known draft
abbrev pub schema_problem : Known → List ℕ → Option Problem
schema_problem known text = option_and_then (by_dialect known) (schema_uri text)

-- ---- URIs and names that another place has

-- of a URI that the place with a number has
abbrev pub uri_problem : Known → ℕ → List ℕ → Option Problem
uri_problem known number uri =
    option_map (λ s. DuplicateIdentifier uri s.0 s.1.path)
    (other_bearer known.sites number (first_under uri [] known.uris))

-- of its identifier, by its base
abbrev pub by_base : Known → ℕ → Result (List ℕ) Refusal → Option Problem
by_base known number (Err refusal) = Some (InvalidUri refusal)
by_base known number (Ok uri) = uri_problem known number uri

-- of its identifier, where it has one
abbrev pub identifier_problem : Known → ℕ → Place → Option Problem
identifier_problem known number p =
    option_and_then (λ id. by_base known number p.base) (identifier_of p)

-- of a name that it has under a base; where an earlier source has that base too, this is told of the identifier alone
abbrev pub name_problem : Known → ℕ → Site → List ℕ → Option Problem
name_problem known number s name =
    option_map (λ t. DuplicateAnchor (nearest_base s.1) t.0 t.1.path)
    (option_and_then (in_source s.0)
    (other_bearer known.sites number (first_under (nearest_base s.1) name known.names)))

-- of an anchor: what begins with a slash is a pointer after a `#`, and names nothing (2020-12 Core, 8.2.2 and 8.2.3)
abbrev pub anchor_problem : Known → ℕ → Site → List ℕ → Option Problem
anchor_problem known number s name =
    if begins_with_slash name then Some NamesNothing else name_problem known number s name

-- the keyword that an anchor of a draft is under
abbrev pub anchor_keyword : Draft → Kind → List ℕ
anchor_keyword draft Dynamic = codes "$dynamicAnchor"
anchor_keyword draft Plain = if is_before_2019 draft then id_keyword draft else codes "$anchor"

-- ---- the list

-- the finding at a place, where something is wrong
abbrev pub finding_at : Site → Option (List ℕ) → Option Problem → List Finding
finding_at s keyword problem =
    option_to_list (option_map (λ x. record {
      source = s.0;
      path = s.1.path;
      keyword = keyword;
      text = option_and_then (λ k. text_under k s.1.value) keyword;
      problem = x;
    }) problem)

-- of the URI of its source, at a root
abbrev pub source_findings : Known → ℕ → Site → List Finding
source_findings known number s =
    finding_at s None (option_and_then (uri_problem known number) (source_uri s.1))

-- of its identifier
abbrev pub identifier_findings : Known → ℕ → Site → List Finding
identifier_findings known number s =
    finding_at s (Some (id_keyword s.1.draft)) (identifier_problem known number s.1)

-- of its `$ref`
abbrev pub reference_findings : Known → Site → List Finding
reference_findings known s =
    finding_at s (Some (codes "$ref"))
    (option_and_then (value_problem known s) (get (codes "$ref") s.1.value))

-- of its dynamic reference, under the keyword that its draft has for one
abbrev pub dynamic_findings_under : Known → Site → List ℕ → List Finding
dynamic_findings_under known s keyword =
    finding_at s (Some keyword)
    (option_and_then (dynamic_problem s.1.draft known s) (get keyword s.1.value))

abbrev pub dynamic_findings : Known → Site → List Finding
dynamic_findings known s =
    option_map_or (dynamic_findings_under known s) (dynamic_keyword s.1.draft) []

-- of its `$schema`
abbrev pub schema_findings : Known → Site → List Finding
schema_findings known s =
    finding_at s (Some (codes "$schema"))
    (option_and_then (schema_problem known) (text_under (codes "$schema") s.1.value))

-- of one anchor
abbrev pub anchor_finding : Known → ℕ → Site → List ℕ × Kind → List Finding
anchor_finding known number s a =
    finding_at s (Some (anchor_keyword s.1.draft a.1)) (anchor_problem known number s a.0)

-- of its anchors
abbrev pub anchor_findings : Known → ℕ → Site → List Finding
anchor_findings known number s =
    flat_map (anchor_finding known number s) (anchors s.1.draft s.1.value)

-- all at the place with a number
abbrev pub findings_at : Known → ℕ → Site → List Finding
findings_at known number s =
    source_findings known number s
    ++ (identifier_findings known number s
    ++ (reference_findings known s
    ++ (dynamic_findings known s
    ++ (schema_findings known s ++ anchor_findings known number s))))

-- all at places
abbrev pub place_findings : Known → List Site → List Finding
place_findings known sites = flat_map (λ e. findings_at known e.0 e.1) (enumerate_from 0 sites)

-- that the source with a number is no JSON
abbrev pub no_json : ℕ → Finding
no_json number =
    record { source = number; path = []; keyword = None; text = None; problem = NotJson }

-- the member by which a root is that of an API description: its version, under one of these keywords (OpenAPI, 4.8.1;
-- Swagger 2.0; AsyncAPI)
abbrev pub description_keyword : Data → Option (List ℕ)
description_keyword tree =
    find (λ keyword. is_some (get keyword tree))
    (codes "openapi" ∷ codes "swagger" ∷ codes "asyncapi" ∷ [])

-- that the source with a number is a description, whose references aren't checked
abbrev pub not_checked : ℕ → Data → List ℕ → Finding
not_checked number tree keyword =
    record {
      source = number;
      path = [];
      keyword = Some keyword;
      text = text_under keyword tree;
      problem = NotChecked;
    }

-- where it is one
abbrev pub description_findings : ℕ → Data → List Finding
description_findings number tree =
    option_to_list (option_map (not_checked number tree) (description_keyword tree))

-- of a source as a whole: it is no JSON, or a description
abbrev pub whole_findings : ℕ × Source → List Finding
whole_findings e = option_map_or (description_findings e.0) e.1.tree (no_json e.0 ∷ [])

-- those of all sources
abbrev pub sources_findings : List Source → List Finding
sources_findings sources = flat_map whole_findings (enumerate_from 0 sources)

-- the texts of references that a place has
abbrev pub references_at : Site → List (List ℕ)
references_at s =
    option_to_list (text_under (codes "$ref") s.1.value)
    ++ option_to_list (option_and_then (λ k. text_under k s.1.value) (dynamic_keyword s.1.draft))

-- how many references sources have
abbrev pub references : Draft → List Source → ℕ
references draft sources = length (flat_map references_at (sites draft sources))

-- whether some URI is had twice
abbrev pub is_any_twice : List (Entry ℕ) → Bool
is_any_twice uris = not (pair_count uris == length uris)

-- the documents of each source alone, as it is read, where some URI is had twice
abbrev pub own_layers : Draft → List Source → List (Entry ℕ) → List Layer
own_layers draft sources uris =
    if is_any_twice uris then map (read_document draft) sources else []

-- what is known of sources, and of others that are held beside them
abbrev pub known_of : Draft → List Source → List Source → Known
known_of draft sources held = record {
  world = world_of draft sources held;
  own = own_layers draft sources (uris_borne (sites draft sources));
  unread = unread_uris sources held;
  sites = sites draft sources;
  uris = uris_borne (sites draft sources);
  names = names_borne (sites draft sources);
}

-- that a document is read by a guessed draft, and a place of another one refers to it
abbrev pub guessed_draft : ℕ → Site → Finding
guessed_draft number s =
    record {
      source = number;
      path = [];
      keyword = None;
      text = None;
      problem = GuessedDraft s.1.draft s.0 s.1.path;
    }

-- that a place has a list under `items`
abbrev pub list_of_items : ℕ → Place → Finding
list_of_items number p =
    record {
      source = number;
      path = p.path;
      keyword = Some (codes "items");
      text = None;
      problem = ListOfItems;
    }

-- the notes on a document whose draft is guessed: on the first place that refers to it, and on its first list under `items`
abbrev pub guesses_in : Draft → List Site → List (Entry ℕ) → ℕ → Source → Data → List Finding
guesses_in draft sites referred number s tree =
    if is_guessed tree then
    option_to_list
    (option_map (guessed_draft number)
    (referrer sites referred s.uri (root_uri (places_in draft s))))
    ++ option_to_list (option_map (list_of_items number) (find has_item_list (places_in draft s)))
    else []

-- those on a source
abbrev pub guesses_of : Draft → List Site → List (Entry ℕ) → ℕ × Source → List Finding
guesses_of draft sites referred e =
    option_map_or (guesses_in draft sites referred e.0 e.1) e.1.tree []

-- those on all sources
abbrev pub guesses : Draft → List Source → List Finding
guesses draft sources =
    flat_map
    (guesses_of draft (sites draft sources) (uris_referred draft (sites draft sources)))
    (enumerate_from 0 sources)

-- All findings: those of sources as a whole, those at the places of these that are JSON, and then the notes on guessed drafts
abbrev pub findings : Draft → List Source → List Source → List Finding
findings draft sources held =
    (sources_findings sources
    ++ place_findings (known_of draft sources held) (sites draft sources))
    ++ guesses draft sources
