use Rattle.ref_definitions.proofs.Appending.{meanings_stay, meanings_stay_below, met_wants_stay, open_wants_after}
use Rattle.ref_definitions.proofs.laws.appended_documents_leave_wants_met.Goals as goal

pub returns : goal.returns
returns c = record { meanings = meanings_stay; below = meanings_stay_below; wants = met_wants_stay; open_wants = open_wants_after }
