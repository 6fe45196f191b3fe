use Rattle.std.proofs.Common.{refl}
use Rattle.std.proofs.Common.{◌≡◌, None, Some}
use Rattle.ref_draft.specs.Rows.{yes}
use Rattle.ref_draft.proofs.examples.children.drafts_and_places_of_children.Goals as goal

pub returns : goal.returns
returns c = record {
  draft_of_a_child = refl;
  draft_of_its_parent = refl;
  in_order = refl;
  none = refl;
  are_at_paths = (refl, tt);
  are_elsewhere = λ h. let e : None ≡ Some yes = h.0 in cc;
}
