use Rattle.std.proofs.Common.{◌≡◌, Less, Greater, Equal, refl}
use Rattle.std.specs.List.Sorted.{IsStrictlySortedBy}
use Rattle.ref_draft.proofs.examples.children.children_of_drafts.Goals as goal

pub returns : goal.returns
unfolding IsStrictlySortedBy
returns c = record {
  of_4 = refl;
  of_6 = refl;
  of_7 = refl;
  of_2019 = refl;
  of_2020 = refl;
  of_unknown = refl;
  with_values = refl;
  of_no_object = refl;
  of_members = refl;
  of_no_members = refl;
  keys = refl;
  in_order = ((refl, tt), (tt, tt));
  out_of_order = λ s. let e : Greater ≡ Less = s.0.0 in cc;
  one_key_twice = λ s. let e : Equal ≡ Less = s.0.0 in cc;
  no_object = tt;
}
