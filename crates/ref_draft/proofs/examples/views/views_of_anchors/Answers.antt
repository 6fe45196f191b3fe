use Rattle.std.proofs.Common.{refl}
use Rattle.std.proofs.Common.{◌≡◌, []}
use Rattle.std.proofs.lemmas.List.Elements.{All-nil, All-push}
use Rattle.ref_draft.specs.declared.draft.Draft.TheVariants.{Draft7}
use Rattle.ref_draft.specs.declared.anchor.Anchor.TheVariants as anchor
use Rattle.ref_draft.specs.Views.{anchor_resource, tagged_value}
use Rattle.ref_draft.specs.Rows.{yes}
use Rattle.ref_draft.proofs.examples.views.views_of_anchors.Goals as goal

pub returns : goal.returns
returns c = record {
  plain = λ name of. refl;
  dynamic = λ name of. refl;
  named_by_a_plain = λ name of. refl;
  named_by_a_dynamic = λ name of. refl;
  none_names = All-nil _;
  one_names = λ name of is. All-push (λ a. anchor_resource a ≡ tagged_value Draft7 yes) [] (anchor.Default name of) (All-nil _) is;
  none_left = refl;
  one_left = λ a. refl;
  two_left = λ a b. refl;
}
