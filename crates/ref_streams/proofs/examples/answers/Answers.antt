use Rattle.std.proofs.Common.{◌≡◌, [], ◌∷◌, codes, inl, inr, refl, ap, get_or, arith}
use Rattle.ref_streams.specs.Serving.{Answers, AnswersLine, out_of_memory}
use Rattle.ref_streams.specs.Rows.{counts, first, second}
use Rattle.ref_streams.proofs.OnLiterals.{ref_streams_on_literals}
use Rattle.ref_streams.proofs.examples.answers.Goals as goal

another_text : ¬ (AnswersLine counts 0 first 1 second)
another_text (inl h) = omega (arith, ap (λ t. get_or t 0 0) h.1)
another_text (inr h) = omega (arith, h.1)

another_count : ¬ (AnswersLine counts 0 first 2 first)
another_count (inl h) = omega (arith, h.0)
another_count (inr h) = omega (arith, h.1)

refused_and_counted : ¬ (AnswersLine counts 0 first 1 out_of_memory)
refused_and_counted (inl h) = let e : out_of_memory ≡ first = h.1 in cc
refused_and_counted (inr h) = omega (arith, h.1)

one_line : Answers counts 0 (first ∷ []) 1 first
one_line = (1, first, [], inl (refl, refl), (refl, refl), refl)

two_lines : Answers counts 0 (first ∷ second ∷ []) 2 (codes "ab")
two_lines = (1, first, second, inl (refl, refl), (2, second, [], inl (refl, refl), (refl, refl), refl), refl)

pub returns : goal.returns
unfolding ref_streams_on_literals
returns c = record {
  one = inl (refl, refl);
  another_text = another_text;
  another_count = another_count;
  refused = inr (refl, refl);
  refused_and_counted = refused_and_counted;
  none = (refl, refl);
  none_with_a_text = λ h. let e : first ≡ [] = h.0 in cc;
  two = two_lines;
  served = (97 ∷ 10 ∷ 98 ∷ [], codes "ab", refl, two_lines, refl);
  served_so_far = (first, (97 ∷ 10 ∷ [], first ∷ [], [], refl, refl, one_line), refl);
  so_far = ([], [], [], tt, refl, (refl, refl));
  three_bytes = (97 ∷ 98 ∷ 99 ∷ [], refl, omega arith);
}
