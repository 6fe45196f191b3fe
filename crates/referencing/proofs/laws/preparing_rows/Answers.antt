use Rattle.std.proofs.Common.{◌≡◌, refl, sym, subst, List, [], ◌∷◌, codes, Ok, Err, Result, arith}
use Rattle.std.specs.Prelude.{String}
use Rattle.std.specs.declared.alloc.Global.{Global}
use Rattle.ref_uri.specs.Targets.{Refusal, parse_refusal}
use Rattle.ref_definitions.specs.Fault as fault
use Rattle.ref_definitions.specs.World.{Layer}
use Rattle.ref_definitions.specs.Places.{root}
use Rattle.ref_definitions.specs.Pending.{Pending}
use Rattle.ref_definitions.specs.Wants.{Want}
use Rattle.ref_definitions.specs.Preparing.{begun, IsOutcome}
use Rattle.ref_definitions.proofs.Runs.{limited_run, ready_run}
use Rattle.ref_definitions.specs.Closure.{IsUsedUp}
use Rattle.ref_definitions.specs.Rows.{world, resolver, given_alone, given_with, refers_to_b, b_refers_to_c, c_is_true}
use Rattle.ref_definitions.proofs.Closure.{documents_alone, outcome_laws}
use Rattle.ref_definitions.proofs.Retrieval.{want_of_b}
use Rattle.ref_definitions.proofs.OnLiterals.{world_on_literals}
use Rattle.ref_error.specs.declared.error.Error.TheVariants.{NoSuchAnchor}
use Rattle.ref_error.specs.Errors.{SaysFault}
use Rattle.referencing.proofs.Retrieved.{retrieved_of}
use Rattle.referencing.proofs.laws.preparing_rows.Goals as goal

abbrev the_answer : Result Layer fault.Fault → Result Layer fault.Fault
the_answer answer = answer

abbrev the_pending : Result (List Pending) fault.Fault → Result (List Pending) fault.Fault
the_pending answer = answer

abbrev the_additions : Result (List Pending) Refusal → Result (List Pending) Refusal
the_additions answer = answer

abbrev the_wants : List Want → List Want
the_wants wants = wants

abbrev alone : Layer
alone = c_is_true ∷ []

no_less : (layer : Layer) → [] ≡ layer → the_answer (Ok layer) ≡ Ok alone → ⊥
no_less layer is same = cc

no_error : (f : fault.Fault) → the_answer (Err f) ≡ Ok alone → ⊥
no_error f same = cc

first_layer : (layer : Layer) → world [] ≡ layer ∷ [] → [] ≡ layer
first_layer layer is = cc

no_anchor : (p : String Global) (f : fault.Fault) → the_pending (Err (fault.InvalidUri (parse_refusal (codes "a b")))) ≡ Err f → SaysFault (NoSuchAnchor p) f → ⊥
no_anchor p f is says = let same : f ≡ fault.InvalidUri (parse_refusal (codes "a b")) = cc in subst (SaysFault (NoSuchAnchor p)) same says

is_ready : IsOutcome (given_alone alone) (Ok alone)
unfolding world_on_literals
is_ready = ready_run 0 alone begun (omega arith) refl refl

is_limit : IsOutcome (given_with 0) (Err (fault.RetrievalLimit (codes "http://a/b") 0))
unfolding world_on_literals
is_limit = limited_run (refers_to_b ∷ []) want_of_b [] begun refl refl

no_additions : (ps : List Pending) → the_additions (Err (parse_refusal (codes "a b"))) ≡ Ok ps → ⊥
no_additions ps is = cc

one_want : the_wants (want_of_b ∷ []) ≡ [] → ⊥
one_want is = cc

pub returns : goal.returns
unfolding world_on_literals
returns c = record {
  rows = record {
    prepared = (alone, is_ready, (outcome_laws (given_alone alone)).ready alone is_ready, refl);
    not_prepared = λ is. no_less is.0 (first_layer is.0 is.3) (documents_alone (given_alone alone) (Ok is.0) refl refl is.1);
    limit = λ uri is. (fault.RetrievalLimit (codes "http://a/b") 0, is_limit, (is, refl));
    no_fault = λ uri is. no_error is.0 (documents_alone (given_alone alone) (Err is.0) refl refl is.1);
    used_up = λ uri is. subst (λ u. IsUsedUp (given_with 0) u 0) (sym is) ((outcome_laws (given_with 0)).used_up (codes "http://a/b") 0 is_limit);
    not_used_up = λ uri is. omega (arith, is.is);
    refused_uri_of_a_meta_schema = λ u is. (fault.InvalidUri (parse_refusal (codes "a b")), refl, (is, refl, refl));
    no_other_fault_of_a_meta_schema = λ p is. no_anchor p is.0 is.1 is.2;
    adds = λ b. ([], refl, refl);
    refusals_add_nothing = λ b is. no_additions is.0 is.1;
    complete = (refl, refl);
    not_complete = λ is. one_want is.1;
    nothing_open = record { no_fault = refl; no_want = refl };
    a_want_open = λ is. one_want is.no_want;
    retrieved = retrieved_of (world (refers_to_b ∷ b_refers_to_c ∷ c_is_true ∷ [])) (record { no_fault = refl; no_want = refl });
    not_retrieved = λ is. is refers_to_b (root refers_to_b) (resolver "http://a/r" []) (codes "b") (0, omega (arith), refl) (0, omega (arith), refl) refl refl (codes "http://a/b") _ refl;
  };
}
