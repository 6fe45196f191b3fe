use Rattle.ref_definitions.proofs.Last.{last_under_both, last_named_both}
use Rattle.ref_definitions.proofs.laws.later_entries_count.Goals as goal

pub returns : goal.returns
returns c = record { under_a_uri = last_under_both; under_a_name = last_named_both }
