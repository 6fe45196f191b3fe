use Rattle.std.proofs.Common.{◌≡◌, ℕ, refl, sym, ap, ◌∙◌, [], ◌∷◌, codes, Ok, Err, Result, arith}
use Rattle.ref_definitions.specs.Fault as fault
use Rattle.ref_definitions.specs.World.{Layer, World}
use Rattle.ref_definitions.specs.Follow.{Followed, followed_steps}
use Rattle.ref_definitions.specs.Preparing.{begun, IsOutcome}
use Rattle.ref_definitions.proofs.Runs.{limited_run, ready_run}
use Rattle.ref_definitions.specs.Rows.{world, given_alone, given_with, refers_to_b, c_is_true, look}
use Rattle.ref_definitions.proofs.Closure.{documents_alone, outcome_laws}
use Rattle.ref_definitions.proofs.Retrieval.{want_of_b}
use Rattle.ref_definitions.proofs.OnLiterals.{world_on_literals}
use Rattle.referencing.specs.Prepared.{IsPreparedOf}
use Rattle.referencing.proofs.Retrieved.{retrieved_of}
use Rattle.referencing.proofs.laws.step_rows.Goals as goal

abbrev alone : Layer
alone = c_is_true ∷ []

is_ready : IsOutcome (given_alone alone) (Ok alone)
unfolding world_on_literals
is_ready = ready_run 0 alone begun (omega arith) refl refl

abbrev the_answer : Result Followed (ℕ × fault.Fault) → Result Followed (ℕ × fault.Fault)
the_answer answer = answer

other_step : (m n : ℕ) (e f : fault.Fault) → the_answer (Err (m, e)) ≡ Err (n, f) → m ≡ n
other_step m n e f is = let same : (m, e) ≡ (n, f) = cc in ap (λ (x : ℕ × fault.Fault). x.0) same

no_fault : (f : Followed) (e : ℕ × fault.Fault) → the_answer (Ok f) ≡ Err e → ⊥
no_fault f e is = cc

no_value : (f : Followed) → the_answer (Err (0, fault.PointerToNowhere (codes "/x"))) ≡ Ok f → ⊥
no_value f is = cc

is_limit : IsOutcome (given_with 0) (Err (fault.RetrievalLimit (codes "http://a/b") 0))
unfolding world_on_literals
is_limit = limited_run (refers_to_b ∷ []) want_of_b [] begun refl refl

is_world : IsPreparedOf (given_alone alone) (world alone)
is_world = (alone, is_ready, (outcome_laws (given_alone alone)).ready alone is_ready, refl)

abbrev the_layer : Result Layer fault.Fault → Result Layer fault.Fault
the_layer answer = answer

no_error : (f : fault.Fault) → the_layer (Err f) ≡ Ok alone → ⊥
no_error f same = cc

same_layer : (layer : Layer) → the_layer (Ok layer) ≡ Ok alone → layer ≡ alone
same_layer layer same = cc

-- preparing these documents may return no other world
same_world : (w : World) → IsPreparedOf (given_alone alone) w → w ≡ world alone
unfolding world_on_literals
same_world w (layer, outcome, is_ready, is) = is ∙ ap world (same_layer layer (documents_alone (given_alone alone) (Ok layer) refl refl outcome))

pub returns : goal.returns
unfolding world_on_literals
returns c = record {
  rows = record {
    second_step = λ p is. (fault.PointerToNowhere (codes "/a"), refl, is);
    not_the_first = λ p is. let same = other_step 1 0 (fault.PointerToNowhere (codes "/a")) is.0 is.1 in omega (arith, same);
    failed_step = λ p is. (world alone, (alone, is_ready, (outcome_laws (given_alone alone)).ready alone is_ready, refl), ((fault.PointerToNowhere (codes "/x"), refl, is), (_, refl)));
    no_step = λ p is. no_fault _ (0, is.2.0.0) is.2.0.1;
    failed_preparing = λ uri is. (fault.RetrievalLimit (codes "http://a/b") 0, is_limit, (is, refl));
    no_failed_preparing = λ uri is. no_error is.0 (documents_alone (given_alone alone) (Err is.0) refl refl is.1);
    no_memory_for_the_copy = λ e. (world alone, is_world, (_, refl));
    no_copy_where_a_step_fails = λ e is. no_value is.2.0 (sym (ap (λ w. followed_steps w (codes "http://a/c") (look "#/x" ∷ [])) (same_world is.0 is.1)) ∙ is.2.1);
    answered = (world alone, is_world, retrieved_of (world alone) (record { no_fault = refl; no_want = refl }), refl);
    not_answered = λ f is. no_value f (sym (ap (λ w. followed_steps w (codes "http://a/c") (look "#/x" ∷ [])) (same_world is.0 is.1)) ∙ is.3);
    reached = (_, refl);
    not_reached = λ is. no_value is.0 is.1;
  };
}
