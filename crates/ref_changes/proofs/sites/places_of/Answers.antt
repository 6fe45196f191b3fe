use Rattle.std.proofs.Common.{◌≡◌, ◌∙◌, flat_map, ap}
use Rattle.ref_changes.specs.Sites.{site_of}
use Rattle.ref_changes.proofs.Standing.{sites_listed}
use Rattle.ref_changes.proofs.sites.places_of.Goals as goal

pub returns-in-Ok : goal.returns-in-Ok
returns-in-Ok c = record { value = sites_listed c.in-Ok.places.items ∙ ap (flat_map site_of) c.in-Ok.ensures.value }
