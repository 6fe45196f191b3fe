-- The laws of equality that the impls of vocabularies and of their sets keep: an impl may cite what is in specs alone.
use Rattle.std.specs.Prelude.{◌≡◌, true, refl}
use Rattle.std.specs.Cmp.{IsEquivalence, nat_eq_equiv, on_equiv, and_equiv}
use Rattle.std.specs.Cmp.Lexicographic.{nat_list_eq_equiv, lists_equiv}
use Rattle.std.proofs.lemmas.Bool.{false≢true}
use Rattle.ref_vocabularies.specs.Vocabularies.{bit, known_eq, Vocabulary, Standard, Custom, vocabulary_eq, VocabularySet, set_eq}

pub known_equivalence : IsEquivalence known_eq
known_equivalence = on_equiv bit nat_eq_equiv

pub vocabulary_equivalence : IsEquivalence vocabulary_eq
vocabulary_equivalence = record { refl = reflexive; symm = symmetric; congr = alike }
  where
    reflexive : (v : Vocabulary) → vocabulary_eq v v ≡ true
    reflexive (Standard k) = known_equivalence.refl k
    reflexive (Custom u) = nat_list_eq_equiv.refl u

    symmetric : (v w : Vocabulary) → vocabulary_eq v w ≡ vocabulary_eq w v
    symmetric (Standard j) (Standard k) = known_equivalence.symm j k
    symmetric (Standard k) (Custom u) = refl
    symmetric (Custom u) (Standard k) = refl
    symmetric (Custom u) (Custom v) = nat_list_eq_equiv.symm u v

    alike : (v w x : Vocabulary) → vocabulary_eq v w ≡ true → vocabulary_eq v x ≡ vocabulary_eq w x
    alike (Standard i) (Standard j) (Standard k) e = known_equivalence.congr i j k e
    alike (Standard i) (Standard j) (Custom u) e = refl
    alike (Standard i) (Custom u) x e = absurd (false≢true e)
    alike (Custom u) (Standard k) x e = absurd (false≢true e)
    alike (Custom u) (Custom v) (Standard k) e = refl
    alike (Custom u) (Custom v) (Custom w) e = nat_list_eq_equiv.congr u v w e

pub set_equivalence : IsEquivalence set_eq
set_equivalence =
    and_equiv (on_equiv (λ (s : VocabularySet). s.standard) (lists_equiv known_equivalence))
    (on_equiv (λ (s : VocabularySet). s.customs) (lists_equiv nat_list_eq_equiv))
