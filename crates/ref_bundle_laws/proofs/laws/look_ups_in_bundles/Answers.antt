use Rattle.std.proofs.Common.{refl}
use Rattle.std.specs.List.Sorted.{IsStrictlySortedBy}
use Rattle.ref_definitions.proofs.OnLiterals.{world_on_literals}
use Rattle.ref_bundle_laws.proofs.laws.look_ups_in_bundles.Goals as goal

pub returns : goal.returns
unfolding world_on_literals IsStrictlySortedBy
returns c = record {
  a_bundle = record { no_fault = refl; no_want = refl; root = refl; in_order = (tt, tt); is = refl };
  below_a_root = refl;
  a_whole_document = refl;
  relative_identifier = refl;
  dynamic_anchor = refl;
  the_definitions = refl;
  new_definitions = refl;
  escaped_definitions = refl;
  nothing_in_definitions = refl;
  the_same_identifier = refl;
  nowhere = refl;
}
