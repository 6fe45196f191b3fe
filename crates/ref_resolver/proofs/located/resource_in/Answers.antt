use Rattle.ref_definitions.specs.Resources.{last_under, resources}
use Rattle.ref_index.specs.Spots.{spot_under}
use Rattle.ref_resolver.proofs.Spotting.{entry_says_spot}
use Rattle.ref_resolver.proofs.located.resource_in.Goals as goal

pub returns : goal.returns
returns c = record {
  value = c.place_of.ensures.place (last_under c.args.uri.now (resources c.args.index.now)) c.resource.ensures.value;
  spot = entry_says_spot (spot_under c.args.uri.now c.args.index.now) c.resource.result c.place_of.result c.resource.ensures.spot c.place_of.ensures.entry;
}
