use Rattle.std.proofs.Common.{refl}
use Rattle.std.proofs.Common.{ap, [], ◌∷◌}
use Rattle.ref_draft.proofs.examples.views.views_of_iterators.Goals as goal

pub returns : goal.returns
returns c = record {
  objects = λ value other v o. rw (v, o);
  no_objects = refl;
  nothing = refl;
  once = λ value is. ap (λ d. d ∷ []) is;
  of_members = λ value other v o. rw (v, o);
  of_members_that_are_objects = λ value other v o. rw (v, o);
  all = refl;
  members_to_come = λ not value other n v o. rw (n, v, o);
}
