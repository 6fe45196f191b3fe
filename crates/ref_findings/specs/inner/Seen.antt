-- The program's places, tables and sources as the definitions see them.
use Rattle.std.specs.Prelude.{◌≡◌, ℕ, Bool, ◌&&◌, List, [], ◌∷◌, ◌++◌, map, reverse, Option, Some, None, is_some, option_map, string_bytes, if◌then◌else◌}
use Rattle.std.specs.List.{AllByRecursion}
use Rattle.ref_parts.specs.Table.{Entry}
use Rattle.ref_paths.specs.Path.{Part, Key, Index}
use Rattle.ref_definitions.specs.World.{Document, Layer}
use Rattle.serde_json.specs.View.{view}
use Rattle.ref_draft.specs.declared.draft.Draft.{Draft}
use Rattle.ref_draft.specs.Children.{Walked}
use Rattle.serde_json.specs.Data.{Data}
use Rattle.ref_draft.specs.Keywords.{is_unknown}
use Rattle.ref_definitions.specs.Wants.{schema_at}
use Rattle.ref_findings.specs.Places.{is_refused}
use Rattle.ref_definitions.specs.Places.{Place}
use Rattle.ref_index.specs.Listed.{ChildrenAreAt}
use Rattle.ref_index.specs.Visit.{place_with}
use Rattle.ref_resolver.specs.Layered.{world_in}
use Rattle.std.specs.Borrow.{Bor}
use Rattle.std.specs.declared.vec.Vec.{Vec}
use Rattle.std.specs.declared.alloc.Global.{Global}
use Rattle.ref_findings.specs.declared.mending.Step.{Step}
use Rattle.ref_findings.specs.declared.mending.Step.TheVariants as steps
use Rattle.ref_findings.specs.declared.place.Place as rust
use Rattle.ref_findings.specs.declared.walk.Keyword as rust_keyword
use Rattle.ref_findings.specs.declared.site.Site as rust_site
use Rattle.ref_findings.specs.declared.survey.Survey as rust_survey
use Rattle.ref_findings.specs.declared.known.Known as rust_known
use Rattle.ref_findings.specs.Sources.{Source, document_in, places_in, is_sound, tree_in_place}
use Rattle.std.specs.Option.{option_to_list}
use Rattle.ref_findings.specs.Bearers.{Site, uris_borne, names_borne}
use Rattle.ref_findings.specs.Findings.{Known}
use Rattle.ref_findings.specs.Entries.{source_of}

-- a place of the program, as the definitions see it
abbrev pub place_of : rust.Place → Place
place_of p = place_with p.path (view p.value.now) p.draft p.outer.value

-- the draft by which a value is read in a schema of a draft, by the one that is detected on it: only a `$schema` that
-- names no known draft may mean no URI
abbrev pub draft_by : Draft → Draft → Data → Draft
draft_by parent detected value =
    if is_unknown detected && is_refused (schema_at value) then parent else detected

-- a child that was walked, with the draft that it is read by
abbrev pub read_again : Draft → Walked → Walked
read_again parent child = record child { draft = draft_by parent child.draft child.value }

-- a step of the program as a part of a path
abbrev pub step_of : Step → Part
step_of (steps.Key key) = Key (string_bytes key)
step_of (steps.Index index) = Index index

-- a path of the program that is lent, and one that is owned
abbrev pub lent_path : Bor (List Step) → List Part
lent_path path = map step_of path.now

abbrev pub own_path : Vec Step Global → List Part
own_path path = map step_of path.items

-- a keyword with its path, right below a path
abbrev pub IsKeywordBelow : List Part → rust_keyword.Keyword → Type 0
IsKeywordBelow path k = k.path ≡ path ++ Key k.text.now ∷ []

-- a place with the number of its source
abbrev pub site_of : rust_site.Site → Site
site_of s = (s.source, place_of s.place.now)

-- a source with its places, whether it is sound, and the tree that is read in place of its own where it isn't
pub record Survey : Type 0 where
  pub source : Source
  pub places : List Place
  pub is_sound : Bool
  pub mended : Option Data

-- that of the program
abbrev pub seen_survey : rust_survey.Survey → Survey
seen_survey s =
    record {
      source = source_of s.source.now;
      places = map place_of s.places.items;
      is_sound = s.is_sound;
      mended = option_map view s.mended;
    }

-- the children of each of its places are at their paths
abbrev pub PlacesAreThere : rust_survey.Survey → Type 0
PlacesAreThere s = AllByRecursion ChildrenAreAt (map place_of s.places.items)

-- that of a source
abbrev pub survey_in : Draft → Source → Survey
survey_in draft s = record {
  source = s;
  places = places_in draft s;
  is_sound = is_sound draft s;
  mended = tree_in_place draft s;
}

-- where each is that of its source
abbrev pub AreSurveys : Draft → List Survey → Type 0
AreSurveys draft ts = AllByRecursion (λ t. t ≡ survey_in draft t.source) ts

-- the document of a source that is sound
abbrev pub sound_in : Draft → Survey → List Document
sound_in draft t = if t.is_sound then option_to_list (document_in draft t.source) else []

-- whether a source is read with another tree
abbrev pub has_mended : Survey → Bool
has_mended t = is_some t.mended

-- a source with another tree, where there is one
abbrev pub with_tree : Source → Option Data → Source
with_tree s None = s
with_tree s (Some tree) = record s { tree = Some tree }

-- a source as it is read
abbrev pub read_of : Survey → Source
read_of t = with_tree t.source t.mended

-- what the program knows of all sources; its tables were made from the last entry to the first
abbrev pub known_in : rust_known.Known → Known
known_in k = record {
  world = world_in k.layers;
  own = k.own.now;
  unread = k.unread.now;
  sites = map site_of k.sites.now;
  uris = reverse k.uris.now;
  names = reverse k.names.now;
}

-- what is known of places, by the documents as they are read, those of each source alone, and the URIs of what is no
-- JSON
abbrev pub known_among : Layer → List Layer → List (Entry ℕ) → List Site → Known
known_among layer own unread sites =
    record {
      world = layer
          ∷ [];
      own = own;
      unread = unread;
      sites = sites;
      uris = uris_borne sites;
      names = names_borne sites;
    }
