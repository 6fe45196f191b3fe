use Rattle.std.proofs.Common.{◌≡◌, map, take}
use Rattle.ref_changes.specs.Sites.{site_entries}
use Rattle.ref_changes.specs.Views.{site_of_place}
use Rattle.ref_changes.proofs.sites.table_of.Given as goal

abbrev pub invariant-loop-number : goal.invariant-loop-number
invariant-loop-number l = l.entries ≡ site_entries (map site_of_place (take l.number l.places))
