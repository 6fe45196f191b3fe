-- The runs that the rows of retrieval use.
use Rattle.std.proofs.Common.{◌≡◌, ◌+◌, refl, ap, ◌∙◌, [], ◌∷◌, length, codes, ℕ}
use Rattle.std.proofs.lemmas.List.{length-append}
use Rattle.ref_definitions.proofs.OnLiterals.{world_on_literals}
use Rattle.ref_definitions.specs.Wants.{Want, Reference}
use Rattle.ref_definitions.specs.Preparing.{Given, IsRun, begun}
use Rattle.ref_definitions.proofs.Runs.{retrieved_run}
use Rattle.ref_definitions.specs.World.{Layer}
use Rattle.ref_definitions.specs.Closure.{IsClosure}
use Rattle.ref_definitions.specs.Rows.{given_documents, given_with, has_b_and_c, one, text, yes, refers_to_b, b_refers_to_c, c_is_true}

abbrev pub want_of_b : Want
want_of_b = record { cause = Reference; uri = codes "http://a/b" }

abbrev pub want_of_c : Want
want_of_c = record { cause = Reference; uri = codes "http://a/c" }

pub first_retrieved : (limit : ℕ) → IsRun (given_with limit) 1 (refers_to_b ∷ b_refers_to_c ∷ [])
unfolding world_on_literals
first_retrieved limit = retrieved_run 0 (refers_to_b ∷ []) want_of_b [] (one "$ref" (text "c")) begun refl refl refl

pub second_retrieved : IsRun (given_documents has_b_and_c 2 (refers_to_b ∷ [])) 2 (refers_to_b ∷ b_refers_to_c ∷ c_is_true ∷ [])
unfolding world_on_literals
second_retrieved =
    retrieved_run 1 (refers_to_b ∷ b_refers_to_c ∷ []) want_of_c [] yes
    (retrieved_run 0 (refers_to_b ∷ []) want_of_b [] (one "$ref" (text "c")) begun refl refl refl)
    refl refl refl

-- a layer has as many documents as were added and retrieved
pub counted : (given_documents : Given) (n : ℕ) (layer : Layer) → IsClosure given_documents n layer → length layer ≡ length given_documents.documents + n
counted given_documents n layer c = ap length c.is ∙ length-append given_documents.documents c.retrieved ∙ ap (λ k. length given_documents.documents + k) c.count
