use Rattle.std.proofs.Common.{refl, true≢false, ap, bytes_eq, codes}
use Rattle.ref_definitions.proofs.OnLiterals.{world_on_literals}
use Rattle.ref_definitions.proofs.examples.outcomes.retrievers.Goals as goal

pub returns : goal.returns
unfolding world_on_literals
returns c = record {
  default_refuses = refl;
  default_refuses_with_no_other_text = λ is. true≢false (ap (λ t. bytes_eq (codes "no document under this URI") t) is);
  default_answers_nothing = λ is. is;
  map_answers = refl;
  map_answers_the_last = refl;
  map_answers_no_other = λ is. cc;
  map_answers_nothing_it_lacks = λ is. cc;
  map_refuses_what_it_lacks = (refl, refl);
  map_refuses_nothing_it_has = λ is. cc;
}
