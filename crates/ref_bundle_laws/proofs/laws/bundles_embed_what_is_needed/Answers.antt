use Rattle.ref_bundle_laws.proofs.LawEmbeds.{embeds_needed}
use Rattle.ref_bundle_laws.proofs.laws.bundles_embed_what_is_needed.Goals as goal

pub returns : goal.returns
returns c = record { law = embeds_needed }
