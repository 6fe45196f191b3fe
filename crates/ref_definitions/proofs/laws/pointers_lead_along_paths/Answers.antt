use Rattle.ref_definitions.proofs.Changes.{pointer_leads}
use Rattle.ref_definitions.proofs.OneBase.{one_base}
use Rattle.ref_definitions.proofs.Reading.{one_path, reads_path, only_path, no_text, first_fault, fault_only}
use Rattle.ref_definitions.proofs.laws.pointers_lead_along_paths.Goals as goal

pub returns : goal.returns
returns c = record { one_base = one_base; one_path = one_path; law = pointer_leads; path = reads_path; only = only_path; no_text = no_text; fault = first_fault; fault_only = fault_only }
