use Rattle.std.proofs.Common.{◌≡◌, [], ◌∷◌, arith}
use Rattle.ref_definitions.specs.Preparing.{begun}
use Rattle.ref_definitions.specs.Rows.{given_with, refers_to_b, b_refers_to_c}
use Rattle.ref_definitions.proofs.Closure.{closure}
use Rattle.ref_definitions.proofs.Retrieval.{first_retrieved, second_retrieved, counted}
use Rattle.ref_definitions.proofs.examples.outcomes.runs.Goals as goal

pub returns : goal.returns
returns c = record {
  begun = begun;
  begun_without_a_document = begun;
  retrieved = first_retrieved 2;
  retrieved_twice = second_retrieved;
  not_begun_with_less = λ run. let count : 0 ≡ 1 = counted (given_with 2) 0 [] (closure (given_with 2) 0 [] run) in omega (arith, count);
  not_counted_twice = λ run. let count : 2 ≡ 3 = counted (given_with 2) 2 (refers_to_b ∷ b_refers_to_c ∷ []) (closure (given_with 2) 2 (refers_to_b ∷ b_refers_to_c ∷ []) run) in omega (arith, count);
}
