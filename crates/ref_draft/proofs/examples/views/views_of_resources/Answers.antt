use Rattle.std.proofs.Common.{refl}
use Rattle.std.proofs.Common.{ap}
use Rattle.ref_draft.specs.declared.draft.Draft.TheVariants.{Draft4, Draft7}
use Rattle.ref_draft.specs.Views.{tagged_value}
use Rattle.ref_draft.proofs.examples.views.views_of_resources.Goals as goal

pub returns : goal.returns
returns c = record {
  owned = λ value is. ap (tagged_value Draft7) is;
  owned_by_4 = λ value is. ap (tagged_value Draft4) is;
  borrowed = λ value is. ap (tagged_value Draft7) is;
  borrowed_by_4 = λ value is. ap (tagged_value Draft4) is;
  identifier = refl;
  hidden_identifier = refl;
}
