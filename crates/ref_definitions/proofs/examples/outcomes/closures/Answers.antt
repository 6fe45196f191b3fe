use Rattle.std.proofs.Common.{◌≡◌, refl, sym, true≢false, [], ◌∷◌, arith}
use Rattle.ref_definitions.specs.Preparing.{begun}
use Rattle.ref_definitions.specs.Rows.{given_documents, given_with, has_b_and_c, refers_to_b, b_refers_to_c, c_is_true}
use Rattle.ref_definitions.proofs.OnLiterals.{world_on_literals}
use Rattle.ref_definitions.proofs.Closure.{closure}
use Rattle.ref_definitions.proofs.Retrieval.{first_retrieved, second_retrieved, counted}
use Rattle.ref_definitions.proofs.examples.outcomes.closures.Goals as goal

pub returns : goal.returns
unfolding world_on_literals
returns c = record {
  nothing_retrieved = closure (given_with 2) 0 (refers_to_b ∷ []) begun;
  one_retrieved = closure (given_with 2) 1 (refers_to_b ∷ b_refers_to_c ∷ []) (first_retrieved 2);
  two_retrieved = closure (given_documents has_b_and_c 2 (refers_to_b ∷ [])) 2 (refers_to_b ∷ b_refers_to_c ∷ c_is_true ∷ []) second_retrieved;
  not_without_what_was_added = λ is. let count : 0 ≡ 1 = counted (given_with 2) 0 [] is in omega (arith, count);
  not_counted_twice = λ is. let count : 2 ≡ 3 = counted (given_with 2) 2 (refers_to_b ∷ b_refers_to_c ∷ []) is in omega (arith, count);
  none_behind = tt;
  no_refusal_without_a_test = λ may. true≢false (sym may);
  answer_by_a_test = refl;
  of_a_retrieved_document = refl;
  of_its_identifier = refl;
  own_meaning = refl;
  no_meaning = λ has. true≢false (sym has);
}
