-- The places of two worlds, side by side.
use Rattle.std.specs.Prelude.{ℕ, Bool, ◌&&◌, List, [], ◌∷◌, flat_map, map, decimal, Option, Some, None, option_and_then, slice_get, Result, Ok, Err}
use Rattle.std.specs.List.{enumerate_from}
use Rattle.serde_json.specs.Data.{Data}
use Rattle.ref_uri.specs.Targets.{Refusal}
use Rattle.ref_paths.specs.Path.{Part}
use Rattle.ref_parts.specs.Pointer.{pointer_text}
use Rattle.ref_parts.specs.Table.{Entry, last_value}
use Rattle.ref_draft.specs.declared.draft.Draft.{Draft}
use Rattle.ref_definitions.specs.World.{World, local_documents}
use Rattle.ref_definitions.specs.Listing.{Listed, local_places}
use Rattle.ref_index.specs.Spots.{Spot}
use Rattle.ref_changes.specs.Moves.{Address, Moves, image}

-- a place where a schema is: the number of its document, its path and value there, its draft, and its base
pub record Site : Type 0 where
  pub document : ℕ
  pub path : List Part
  pub value : Data
  pub draft : Draft
  pub base : List ℕ

-- a place that is listed, which has a base in a registry
abbrev pub site_with : Listed → Result (List ℕ) Refusal → List Site
site_with l (Ok base) =
    record {
      document = l.document;
      path = l.path;
      value = l.value;
      draft = l.draft;
      base = base;
    } ∷ []
site_with l (Err refusal) = []

abbrev pub site_of : Listed → List Site
site_of l = site_with l l.base

-- those of the own documents of a world
abbrev pub sites : World → List Site
sites world = flat_map site_of (local_places (local_documents world))

-- where a place is
abbrev pub spot_of : Site → Spot
spot_of s = record { document = s.document; path = s.path }

-- the number of a place, under its pointer and the number of its document
abbrev pub site_entry : ℕ × Site → Entry ℕ
site_entry e = (pointer_text e.1.path, decimal e.1.document, e.0)

abbrev pub site_entries : List Site → List (Entry ℕ)
site_entries all = map site_entry (enumerate_from 0 all)

-- the place at an address: the last, if there were several
abbrev pub site_at : List Site → Address → Option Site
site_at all a =
    option_and_then (slice_get all) (last_value a.pointer (decimal a.document) (site_entries all))

-- where a place is after
abbrev pub site_after : Moves → List Site → Site → Option Site
site_after moves after s = site_at after (image moves (spot_of s))
