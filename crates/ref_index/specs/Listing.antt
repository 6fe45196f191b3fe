-- A place of the program as it is listed.
use Rattle.std.specs.Prelude.{map, Ok}
use Rattle.serde_json.specs.View.{view}
use Rattle.ref_paths.specs.Segment.{part_of}
use Rattle.ref_definitions.specs.Listing.{Listed}
use Rattle.ref_index.specs.declared.places.Place.{Place}

-- the place
abbrev pub listed_of : Place → Listed
listed_of p =
    record {
      document = p.document;
      path = map part_of p.path.items;
      value = view p.value.now;
      draft = p.draft;
      base = Ok p.base.value;
    }
