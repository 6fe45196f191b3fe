-- Preparing, want by want, over plain values.
use Rattle.std.proofs.Common.{◌≡◌, ℕ, suc, ◌+◌, ◌<◌, ◌≤◌, List, [], ◌∷◌, ◌++◌, true, false, take, drop, length, filter, flat_map, Some, None, Ok, Err, sym, ap, ◌∙◌, subst, arith}
use Rattle.std.specs.Prelude.{slice_get}
use Rattle.std.specs.List.{AllByRecursion}
use Rattle.std.proofs.lemmas.List.{take-append-le}
use Rattle.std.proofs.lemmas.Grind.{flat_map-append}
use Rattle.ref_uri.specs.Targets.{Refusal}
use Rattle.ref_uri.specs.declared.error.UriFault.{UriFault}
use Rattle.ref_uri.specs.declared.error.UriFault.TheVariants.{Invalid, Memory}
use Rattle.ref_error.specs.declared.error.Error.{Error}
use Rattle.ref_error.specs.declared.error.Error.TheVariants as error
use Rattle.ref_error.specs.Errors.{of_uri_fault, UnlessMemory}
use Rattle.ref_definitions.specs.World.{Document, Layer, World}
use Rattle.ref_definitions.specs.Places.{places}
use Rattle.ref_definitions.specs.Fault.{InvalidUri, RetrievalLimit}
use Rattle.ref_definitions.specs.Wants.{Want, wants_at, wants, faults_at, faults, is_open, open_wants}
use Rattle.ref_definitions.specs.Preparing.{Given, IsRun, begun, IsOutcome, refusal_fault}
use Rattle.ref_definitions.proofs.Runs.{retrieved_run, faulty_run, limited_run, refused_run, ready_run}
use Rattle.ref_definitions.proofs.Appending.{met_wants_stay}
use Rattle.ref_index.specs.Retrieval.{IsFaultyOutcome}
use Rattle.ref_index.specs.inner.Retrieved.{IsAnswerFor}
use Rattle.ref_index.specs.Faults.{IsFirstFault}
use Rattle.ref_index.proofs.Walking.{first_in_front}
use Rattle.ref_index.proofs.Opening.{first_passes, none_passes}

-- the first fault of the documents in front is that of all
pub first_of_more : (front rest all : Layer) (fault : UriFault) → front ++ rest ≡ all → IsFirstFault (faults front) fault → IsFirstFault (faults all) fault
first_of_more front rest all fault is first =
    subst (λ l. IsFirstFault l fault) (sym (flat_map-append (λ d. flat_map (λ p. faults_at p.base p.value) (places d)) front rest) ∙ ap faults is)
    (first_in_front (faults front) (faults rest) fault first)

-- After n retrieved documents: none has a fault, no want before a number is open, and the one with that number is.
pub record IsAfter (g : Given) (n : ℕ) (layer : Layer) (next : ℕ) : Type 0 where
  pub run : IsRun g n layer
  pub most : n ≤ g.limit
  pub faultless : faults layer ≡ []
  pub within : next ≤ length (wants layer)
  pub met : AllByRecursion (λ w. is_open (layer ∷ g.parents) w ≡ false) (take next (wants layer))
  pub open_there : (w : Want) → slice_get (wants layer) next ≡ Some w → is_open (layer ∷ g.parents) w ≡ true

-- ---- the first open want

first_want : (g : Given) (n : ℕ) (layer : Layer) (next : ℕ) (w : Want) → IsAfter g n layer next → slice_get (wants layer) next ≡ Some w
    → open_wants (layer ∷ g.parents) layer ≡ w ∷ filter (is_open (layer ∷ g.parents)) (drop (suc next) (wants layer))
first_want g n layer next w is there = first_passes (is_open (layer ∷ g.parents)) next (wants layer) w is.met there (is.open_there w there)

pub at_limit : (g : Given) (n : ℕ) (layer : Layer) (next : ℕ) (w : Want) → IsAfter g n layer next → slice_get (wants layer) next ≡ Some w → n ≡ g.limit → IsOutcome g (Err (RetrievalLimit w.uri g.limit))
at_limit g n layer next w is there all = limited_run layer w _ (subst (λ m. IsRun g m layer) all is.run) is.faultless (first_want g n layer next w is there)

pub at_refusal : (g : Given) (n : ℕ) (layer : Layer) (next : ℕ) (w : Want) (text : List ℕ) → IsAfter g n layer next → slice_get (wants layer) next ≡ Some w → n < g.limit → g.retriever.may_refuse w.uri text
    → IsOutcome g (Err (refusal_fault w.cause w.uri text))
at_refusal g n layer next w text is there more says = refused_run n layer w _ text is.run more is.faultless (first_want g n layer next w is there) says

-- ---- a document more

one_more : (g : Given) (n : ℕ) (layer : Layer) (next : ℕ) (w : Want) (d : Document) → IsAfter g n layer next → slice_get (wants layer) next ≡ Some w → IsAnswerFor g.retriever g.draft w.uri d
    → IsRun g (suc n) (layer ++ d ∷ [])
one_more g n layer next w d is there (tree, may, same) =
    subst (λ e. IsRun g (suc n) (layer ++ e ∷ [])) (sym same) (retrieved_run n layer w _ tree is.run is.faultless (first_want g n layer next w is there) may)

pub at_fault : (g : Given) (n : ℕ) (layer : Layer) (next : ℕ) (w : Want) (d : Document) (refusal : Refusal) (more : List Refusal) → IsAfter g n layer next → slice_get (wants layer) next ≡ Some w → n < g.limit
    → IsAnswerFor g.retriever g.draft w.uri d → faults (layer ++ d ∷ []) ≡ refusal ∷ more → IsOutcome g (Err (InvalidUri refusal))
at_fault g n layer next w d refusal more is there less answer first =
    faulty_run (suc n) (layer ++ d ∷ []) refusal more (one_more g n layer next w d is there answer) (omega (arith, less)) first

all_closed : (layer : Layer) (d : Document) (parents : World) (ws : List Want) → AllByRecursion (λ w. is_open (layer ∷ parents) w ≡ false) ws → AllByRecursion (λ w. is_open ((layer ++ d ∷ []) ∷ parents) w ≡ false) ws
all_closed layer d parents [] met = tt
all_closed layer d parents (w ∷ ws) met = (met_wants_stay layer (d ∷ []) parents w met.0, all_closed layer d parents ws met.1)

-- the wants of a layer are before those of a document after it
wants_more : (layer : Layer) (d : Document) → wants (layer ++ d ∷ []) ≡ wants layer ++ wants (d ∷ [])
wants_more layer d = flat_map-append (λ e. flat_map (λ p. wants_at p.base p.value) (places e)) layer (d ∷ [])

pub still_met : (layer : Layer) (d : Document) (parents : World) (next : ℕ) → next ≤ length (wants layer) → AllByRecursion (λ w. is_open (layer ∷ parents) w ≡ false) (take next (wants layer))
    → AllByRecursion (λ w. is_open ((layer ++ d ∷ []) ∷ parents) w ≡ false) (take next (wants (layer ++ d ∷ [])))
still_met layer d parents next within met =
    subst (AllByRecursion (λ w. is_open ((layer ++ d ∷ []) ∷ parents) w ≡ false)) (sym (ap (take next) (wants_more layer d) ∙ take-append-le next (wants layer) (wants (d ∷ [])) within))
    (all_closed layer d parents (take next (wants layer)) met)

-- the number of the first open want, with what holds of it
pub record IsNext (layer : Layer) (parents : World) (from next : ℕ) : Type 0 where
  pub faultless : faults layer ≡ []
  pub within : next ≤ length (wants layer)
  pub met : AllByRecursion (λ w. is_open (layer ∷ parents) w ≡ false) (take from (wants layer)) → AllByRecursion (λ w. is_open (layer ∷ parents) w ≡ false) (take next (wants layer))
  pub open_there : (w : Want) → slice_get (wants layer) next ≡ Some w → is_open (layer ∷ parents) w ≡ true

pub onward : (g : Given) (n : ℕ) (layer newer : Layer) (from next : ℕ) (w : Want) (d : Document) → IsAfter g n layer from → slice_get (wants layer) from ≡ Some w → n < g.limit
    → IsAnswerFor g.retriever g.draft w.uri d → newer ≡ layer ++ d ∷ [] → IsNext newer g.parents from next → IsAfter g (n + 1) newer next
onward g n layer newer from next w d is there less answer same to = subst (λ k. IsAfter g k newer next) (let e : suc n ≡ n + 1 = omega arith in e) (record {
  run = subst (IsRun g (suc n)) (sym same) (one_more g n layer from w d is there answer);
  most = omega (arith, less);
  faultless = to.faultless;
  within = to.within;
  met = to.met (subst (λ l. AllByRecursion (λ w. is_open (l ∷ g.parents) w ≡ false) (take from (wants l))) (sym same) (still_met layer d g.parents from is.within is.met));
  open_there = to.open_there;
})

-- ---- the beginning and the end

pub at_first : (g : Given) (layer : Layer) (next : ℕ) → layer ≡ g.documents → IsNext layer g.parents 0 next → IsAfter g 0 layer next
at_first g layer next same to = record {
  run = subst (IsRun g 0) (sym same) begun;
  most = omega arith;
  faultless = to.faultless;
  within = to.within;
  met = to.met tt;
  open_there = to.open_there;
}

pub at_first_fault : (g : Given) (refusal : Refusal) (more : List Refusal) → faults g.documents ≡ refusal ∷ more → IsOutcome g (Err (InvalidUri refusal))
at_first_fault g refusal more is = faulty_run 0 g.documents refusal more begun (omega arith) is

pub at_last : (g : Given) (n : ℕ) (layer : Layer) (next : ℕ) → IsAfter g n layer next → slice_get (wants layer) next ≡ None → IsOutcome g (Ok layer)
at_last g n layer next is none = ready_run n layer is.run is.most is.faultless (none_passes (is_open (layer ∷ g.parents)) next (wants layer) is.met none)

-- ---- errors

pub unless_memory : {P Q : Type 0} (e : Error) → (P → Q) → UnlessMemory P e → UnlessMemory Q e
unless_memory (error.Unretrievable uri source) then is = then is
unless_memory (error.PointerToNowhere pointer) then is = then is
unless_memory (error.InvalidPercentEncoding pointer) then is = then is
unless_memory (error.InvalidArrayIndex pointer index) then is = then is
unless_memory (error.NoSuchAnchor anchor) then is = then is
unless_memory (error.InvalidAnchor anchor) then is = then is
unless_memory (error.InvalidUri uri) then is = then is
unless_memory (error.UnknownSpecification specification) then is = then is
unless_memory (error.CircularMetaschema uri) then is = then is
unless_memory (error.RetrievalLimit uri limit) then is = then is
unless_memory (error.Memory memory) then is = tt

pub of_first_fault : (g : Given) (fs : List Refusal) (fault : UriFault) → IsFirstFault fs fault → ((refusal : Refusal) (more : List Refusal) → fs ≡ refusal ∷ more → IsOutcome g (Err (InvalidUri refusal)))
    → IsFaultyOutcome g (of_uri_fault fault)
of_first_fault g fs (Invalid error) (refusal, more, is, says) outcome = (InvalidUri refusal, outcome refusal more is, says)
of_first_fault g fs (Memory error) is outcome = tt
