-- A table of places.
use Rattle.std.specs.Prelude.{◌≡◌, map}
use Rattle.ref_changes.specs.declared.sites.Sites.{Sites}
use Rattle.ref_changes.specs.Sites.{site_entries}
use Rattle.ref_changes.specs.Views.{site_of_place}

-- the table is that of the places
abbrev pub IsTable : Sites → Type 0
IsTable s = s.table ≡ site_entries (map site_of_place s.places.now)
