use Rattle.std.proofs.Common.{◌≡◌, None, Some, refl}
use Rattle.ref_draft.specs.Rows.{empty, yes}
use Rattle.ref_draft.proofs.examples.children.trees_with_unique_keys.Goals as goal

pub returns : goal.returns
returns c = record {
  once = ((refl, (refl, tt)), (tt, ((((refl, tt), ((tt, tt), tt)), tt), tt)));
  twice = λ u. let e : Some yes ≡ None = u.0.0 in cc;
  twice_in_an_element = λ u. let e : Some empty ≡ None = u.0.0.0 in cc;
  twice_in_a_member = λ u. let e : Some empty ≡ None = u.1.0.0.0 in cc;
  keys = (refl, (refl, tt));
  equal_keys = λ u. let e : Some yes ≡ None = u.0 in cc;
  elements = (tt, (((refl, tt), (tt, tt)), tt));
  members_apart = (tt, ((tt, tt), tt));
}
