use Rattle.std.proofs.Common.{refl}
use Rattle.std.proofs.Common.{◌≡◌, None, Some}
use Rattle.ref_draft.specs.Rows.{yes, empty}
use Rattle.ref_draft.proofs.examples.views.keys_of_objects.Goals as goal

pub returns : goal.returns
returns c = record {
  once = (refl, (refl, tt));
  twice = λ h. let e : Some yes ≡ Some empty = h.1.0 in cc;
  once_where_members = (refl, (refl, tt));
  twice_where_members = λ h. let e : Some yes ≡ Some empty = h.1.0 in cc;
  twice_where_whole = tt;
  found = (refl, tt);
  not_found = λ h. let e : None ≡ Some yes = h.0 in cc;
  members = refl;
  no_members = refl;
}
