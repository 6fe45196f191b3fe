use Rattle.std.proofs.Common.{◌∙◌}
use Rattle.ref_index.proofs.found.Found.reserve_times.Goals as goal

pub returns : goal.returns
returns c = record {
  held = λ layer held holds. record {
    by_uri = rw c.reserve.ensures.items (rw c.reserve_times.ensures.value holds.by_uri);
    by_name = rw c.reserve.ensures.items (rw c.reserve_times-2.ensures.value holds.by_name);
    wanted = rw c.reserve-2.ensures.items holds.wanted;
    of_identifiers = rw c.reserve_times-3.ensures.value holds.of_identifiers;
    of_references = rw c.reserve_times-4.ensures.value holds.of_references;
    known = λ uri. c.reserve-3.ensures.keys.2 uri ∙ holds.known uri;
  };
}
