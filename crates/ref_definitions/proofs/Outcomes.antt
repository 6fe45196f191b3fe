-- Where a retriever's answers are determined, preparing has one outcome.
use Rattle.std.proofs.Common.{◌≡◌, ℕ, ◌<◌, ◌≤◌, List, [], ◌∷◌, ◌++◌, Some, None, option_map, Result, Ok, Err, ⊎_elim, refl, sym, ap, subst, ◌∙◌, arith}
use Rattle.std.proofs.lemmas.Bool.{cases_lt}
use Rattle.serde_json.specs.Data.{Data}
use Rattle.ref_uri.specs.Targets.{Refusal}
use Rattle.ref_definitions.specs.World.{Layer, document}
use Rattle.ref_definitions.specs.Fault.{Fault, InvalidUri, RetrievalLimit}
use Rattle.ref_definitions.specs.Wants.{Want, faults, open_wants}
use Rattle.ref_definitions.specs.Preparing.{Retriever, Given, IsRetrieval, IsRun, begun, retrieved, IsOutcome, faulty, limited, refused, ready, refusal_fault}
use Rattle.ref_definitions.specs.Retrievers.{default_retriever, map_retriever, function_retriever}

-- one answer or one refusal for a URI, and not both
pub record IsDetermined (r : Retriever) : Type 0 where
  pub one_answer : (uri : List ℕ) (t u : Data) → r.may_answer uri t → r.may_answer uri u → t ≡ u
  pub one_refusal : (uri s t : List ℕ) → r.may_refuse uri s → r.may_refuse uri t → s ≡ t
  pub not_both : (uri : List ℕ) (tree : Data) (text : List ℕ) → r.may_answer uri tree → r.may_refuse uri text → ⊥

pub map_is_determined : (pairs : List (List ℕ × Data)) → IsDetermined (map_retriever pairs)
map_is_determined pairs = record {
  one_answer = λ uri t u one other. let same : Some t ≡ Some u = sym one ∙ other in cc;
  one_refusal = λ uri s t one other. one.1 ∙ sym other.1;
  not_both = λ uri tree text answer refusal. let same : None ≡ Some tree = ap (option_map (λ e. e.1)) (sym refusal.0) ∙ answer in cc;
}

pub function_is_determined : (answers : List ℕ → Result Data (List ℕ)) → IsDetermined (function_retriever answers)
function_is_determined answers = record {
  one_answer = λ uri t u one other. let same : Ok t ≡ Ok u = sym one ∙ other in cc;
  one_refusal = λ uri s t one other. let same : Err s ≡ Err t = sym one ∙ other in cc;
  not_both = λ uri tree text answer refusal. absurd (let same : Ok tree ≡ Err text = sym answer ∙ refusal in cc);
}

pub default_is_determined : IsDetermined default_retriever
default_is_determined = record {
  one_answer = λ uri t u one other. absurd one;
  one_refusal = λ uri s t one other. one ∙ sym other;
  not_both = λ uri tree text answer refusal. answer;
}

module _ (given : Given) (d : IsDetermined given.retriever) where
  abbrev Open : Layer → Want → List Want → Type 0
  Open layer want more = open_wants (layer ∷ given.parents) layer ≡ want ∷ more

  -- ---- runs of one length

  same_next : (l m : Layer) (v w : Want) (vs ws : List Want) (t u : Data) → l ≡ m → Open l v vs → Open m w ws → given.retriever.may_answer v.uri t → given.retriever.may_answer w.uri u
      → l ++ document given.draft v.uri t ∷ [] ≡ m ++ document given.draft w.uri u ∷ []
  same_next l m v w vs ws t u same first second one other =
      let wants : v ∷ vs ≡ w ∷ ws = sym first ∙ ap (λ x. open_wants (x ∷ given.parents) x) same ∙ second in
      let want : v ≡ w = cc in
      let tree : t ≡ u = d.one_answer w.uri t u (subst (λ (x : Want). given.retriever.may_answer x.uri t) want one) other in
      rw (same, want, tree) refl

  same_layer : (n k : ℕ) (l m : Layer) → n ≡ k → IsRun given n l → IsRun given k m → l ≡ m
  same_layer n k l m same begun begun = refl
  same_layer n k l m same begun (retrieved j before want tree run step) = absurd (omega (arith, same))
  same_layer n k l m same (retrieved i before want tree run step) begun = absurd (omega (arith, same))
  same_layer n k l m same (retrieved i before want tree run step) (retrieved j before' want' tree' run' step') =
      same_next before before' want want' step.next.more step'.next.more tree tree' (same_layer i j before before' (omega (arith, same)) run run') step.next.first_open step'.next.first_open step.answered step'.answered

  -- ---- a run passes each shorter one

  record Passes (k : ℕ) : Type 0 where
    layer : Layer
    want : Want
    tree : Data
    run : IsRun given k layer
    step : IsRetrieval given layer want tree

  passes : (k n : ℕ) (l : Layer) → k < n → IsRun given n l → Passes k
  passes k n l less begun = absurd (omega (arith, less))
  passes k n l less (retrieved m before want tree run step) =
      ⊎_elim
      (λ earlier. passes k m before earlier run)
      (λ late. let same : m ≡ k = omega (arith, less, late) in
      record { layer = before; want = want; tree = tree; run = subst (λ x. IsRun given x before) same run; step = step })
      (cases_lt k m)

  -- ---- where a run ends

  data Ends (n : ℕ) (layer : Layer) : Result Layer Fault → Type 0 where
    at_fault : (refusal : Refusal) (more : List Refusal) → faults layer ≡ refusal ∷ more → Ends n layer (Err (InvalidUri refusal))
    at_limit : (want : Want) (more : List Want) → n ≡ given.limit → faults layer ≡ [] → Open layer want more → Ends n layer (Err (RetrievalLimit want.uri given.limit))
    at_refusal : (want : Want) (more : List Want) (text : List ℕ) → n < given.limit → faults layer ≡ [] → Open layer want more → given.retriever.may_refuse want.uri text → Ends n layer (Err (refusal_fault want.cause want.uri text))
    at_end : faults layer ≡ [] → open_wants (layer ∷ given.parents) layer ≡ [] → Ends n layer (Ok layer)

  record EndsAt (answer : Result Layer Fault) : Type 0 where
    count : ℕ
    layer : Layer
    run : IsRun given count layer
    within : count ≤ given.limit
    end : Ends count layer answer

  ends_at : (answer : Result Layer Fault) → IsOutcome given answer → EndsAt answer
  ends_at answer (faulty refusal e) = record { count = e.count; layer = e.layer; run = e.run; within = e.within; end = at_fault refusal e.more e.first_fault }
  ends_at answer (limited want e) = record { count = given.limit; layer = e.layer; run = e.run; within = omega arith; end = at_limit want e.next.more refl e.next.no_fault e.next.first_open }
  ends_at answer (refused want text e) = record { count = e.count; layer = e.layer; run = e.run; within = omega (arith, e.below); end = at_refusal want e.next.more text e.below e.next.no_fault e.next.first_open e.refuses }
  ends_at answer (ready layer e) = record { count = e.count; layer = layer; run = e.run; within = e.within; end = at_end e.no_fault e.no_want }

  no_fault : {R : Type 0} (refusal : Refusal) (more : List Refusal) (layer : Layer) → faults layer ≡ refusal ∷ more → faults layer ≡ [] → R
  no_fault refusal more layer first clean = absurd (let e : [] ≡ refusal ∷ more = sym clean ∙ first in cc)

  none_open : {R : Type 0} (want : Want) (more : List Want) (layer : Layer) → Open layer want more → open_wants (layer ∷ given.parents) layer ≡ [] → R
  none_open want more layer unmet shut = absurd (let e : [] ≡ want ∷ more = sym shut ∙ unmet in cc)

  same_want : (v w : Want) (vs ws : List Want) (layer : Layer) → Open layer v vs → Open layer w ws → v ≡ w
  same_want v w vs ws layer one other = let e : v ∷ vs ≡ w ∷ ws = sym one ∙ other in cc

  one_end : (n : ℕ) (layer : Layer) (a b : Result Layer Fault) → Ends n layer a → Ends n layer b → a ≡ b
  one_end n layer a b (at_fault r rs first) (at_fault s ss second) = let e : r ∷ rs ≡ s ∷ ss = sym first ∙ second in let same : r ≡ s = cc in ap (λ x. Err (InvalidUri x)) same
  one_end n layer a b (at_fault r rs first) (at_limit w ws is clean unmet) = no_fault r rs layer first clean
  one_end n layer a b (at_fault r rs first) (at_refusal w ws text less clean unmet may) = no_fault r rs layer first clean
  one_end n layer a b (at_fault r rs first) (at_end clean shut) = no_fault r rs layer first clean
  one_end n layer a b (at_limit w ws is clean unmet) (at_fault r rs first) = no_fault r rs layer first clean
  one_end n layer a b (at_limit v vs is clean unmet) (at_limit w ws is' clean' unmet') = ap (λ (x : Want). Err (RetrievalLimit x.uri given.limit)) (same_want v w vs ws layer unmet unmet')
  one_end n layer a b (at_limit v vs is clean unmet) (at_refusal w ws text less clean' unmet' may) = absurd (omega (arith, is, less))
  one_end n layer a b (at_limit v vs is clean unmet) (at_end clean' shut) = none_open v vs layer unmet shut
  one_end n layer a b (at_refusal w ws text less clean unmet may) (at_fault r rs first) = no_fault r rs layer first clean
  one_end n layer a b (at_refusal v vs text less clean unmet may) (at_limit w ws is clean' unmet') = absurd (omega (arith, is, less))
  one_end n layer a b (at_refusal v vs s less clean unmet may) (at_refusal w ws t less' clean' unmet' may') =
      let want = same_want v w vs ws layer unmet unmet' in
      let text : s ≡ t = d.one_refusal w.uri s t (subst (λ (x : Want). given.retriever.may_refuse x.uri s) want may) may' in
      rw (want, text) refl
  one_end n layer a b (at_refusal v vs text less clean unmet may) (at_end clean' shut) = none_open v vs layer unmet shut
  one_end n layer a b (at_end clean shut) (at_fault r rs first) = no_fault r rs layer first clean
  one_end n layer a b (at_end clean shut) (at_limit w ws is clean' unmet) = none_open w ws layer unmet shut
  one_end n layer a b (at_end clean shut) (at_refusal w ws text less clean' unmet may) = none_open w ws layer unmet shut
  one_end n layer a b (at_end clean shut) (at_end clean' shut') = refl

  goes_on : (n : ℕ) (layer : Layer) (a : Result Layer Fault) (want : Want) (more : List Want) (tree : Data) → n < given.limit → Ends n layer a → faults layer ≡ [] → Open layer want more → given.retriever.may_answer want.uri tree → ⊥
  goes_on n layer a want more tree below (at_fault r rs first) clean unmet answered = no_fault r rs layer first clean
  goes_on n layer a want more tree below (at_limit w ws is clean' unmet') clean unmet answered = absurd (omega (arith, is, below))
  goes_on n layer a want more tree below (at_refusal w ws text less clean' unmet' may) clean unmet answered =
      d.not_both w.uri tree text (subst (λ (x : Want). given.retriever.may_answer x.uri tree) (same_want want w more ws layer unmet unmet') answered) may
  goes_on n layer a want more tree below (at_end clean' shut) clean unmet answered = none_open want more layer unmet shut

  not_longer : (a b : Result Layer Fault) (one : EndsAt a) (other : EndsAt b) → one.count < other.count → ⊥
  not_longer a b one other less =
      let there = passes one.count other.count other.layer less other.run in
      let same : there.layer ≡ one.layer = same_layer one.count one.count there.layer one.layer refl there.run one.run in
      goes_on one.count there.layer a there.want there.step.next.more there.tree (omega (arith, less, other.within)) (ends_there same) there.step.next.no_fault there.step.next.first_open there.step.answered
    where
      ends_there : {l : Layer} → l ≡ one.layer → Ends one.count l a
      ends_there same = subst (λ x. Ends one.count x a) (sym same) one.end

  pub one_outcome : (a b : Result Layer Fault) → IsOutcome given a → IsOutcome given b → a ≡ b
  one_outcome a b first second =
      let one = ends_at a first in
      let other = ends_at b second in
      ⊎_elim
      (λ less. absurd (not_longer a b one other less))
      (λ more. ⊎_elim
      (λ less. absurd (not_longer b a other one less))
      (λ more'. let count : other.count ≡ one.count = omega (arith, more, more') in
      let layer : other.layer ≡ one.layer = same_layer other.count one.count other.layer one.layer count other.run one.run in
      one_end one.count one.layer a b one.end (subst (λ x. Ends one.count x b) layer (subst (λ k. Ends k other.layer b) count other.end)))
      (cases_lt other.count one.count))
      (cases_lt one.count other.count)
