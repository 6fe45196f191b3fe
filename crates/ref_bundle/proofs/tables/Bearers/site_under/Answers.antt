use Rattle.std.proofs.Common.{option_map, ap, ◌∙◌}
use Rattle.ref_bundle.specs.Needed.{sites_of_uris}
use Rattle.ref_bundle.specs.inner.Tables.{site_of}
use Rattle.ref_bundle.proofs.Bearing.{found, copied_site}
use Rattle.ref_bundle.proofs.tables.Bearers.site_under.Goals as goal

pub returns : goal.returns
returns c =
    record { value = λ layer are. copied_site c.get.result.0 ∙ ap (option_map site_of) c.get.ensures.value ∙ found c.args.uri.now c.args.self.now.last (sites_of_uris layer) are.last }
