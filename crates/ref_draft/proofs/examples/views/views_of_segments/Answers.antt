use Rattle.std.proofs.Common.{refl}
use Rattle.ref_draft.proofs.examples.views.views_of_segments.Goals as goal

pub returns : goal.returns
returns c = record {
  index = refl;
  key = λ text. refl;
  no_part = refl;
  index_part = refl;
  child = λ keyword value k v. rw (k, v);
  child_of_a_value = λ keyword value k v. rw (k, v);
  none_added = refl;
  one_added = λ keyword value k v. rw (k, v);
}
