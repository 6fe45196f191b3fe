use Rattle.std.proofs.Common.{refl, arith}
use Rattle.ref_draft.specs.declared.draft.Draft.TheVariants.{Draft202012}
use Rattle.ref_definitions.specs.Places.{root}
use Rattle.ref_definitions.specs.Rows.{at, one, yes}
use Rattle.ref_definitions.proofs.OnLiterals.{world_on_literals}
use Rattle.ref_definitions.proofs.examples.places.places_after_the_root.Goals as goal

pub returns : goal.returns
unfolding world_on_literals
returns c = record {
  a_child = record { parent = root (at Draft202012 "http://a/r" (one "not" yes)); comes_before = (0, omega arith, refl); child = (0, omega arith, refl) };
  no_child = λ child. omega (arith, child.comes_before.1);
  after_the_root = (record { parent = root (at Draft202012 "http://a/r" (one "not" yes)); comes_before = (0, omega arith, refl); child = (0, omega arith, refl) }, tt);
  nothing_after = tt;
}
