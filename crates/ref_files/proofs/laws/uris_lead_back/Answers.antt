use Rattle.ref_files.proofs.LeadsBack.{uri_leads_back, segments_lead_back}
use Rattle.ref_files.proofs.laws.uris_lead_back.Goals as goal

pub returns : goal.returns
returns c = record { path = uri_leads_back; segments = segments_lead_back }
