use Rattle.std.proofs.Common.{refl}
use Rattle.ref_draft.proofs.resource.Resource.into_inner.Goals as goal

pub returns : goal.returns
returns c = record { value = refl }
