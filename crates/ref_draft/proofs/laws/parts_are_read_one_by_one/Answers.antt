use Rattle.ref_draft.proofs.Reaching.{reached_on, reached_accepts, reached_start}
use Rattle.ref_draft.proofs.laws.parts_are_read_one_by_one.Goals as goal

pub returns : goal.returns
returns c = record { start = reached_start; more = reached_on; accepts = reached_accepts }
