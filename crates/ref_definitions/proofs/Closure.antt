-- What runs of retrieval add, and which outcomes there are.
use Rattle.std.proofs.Common.{◌≡◌, ℕ, suc, ◌+◌, Bool, true, false, not, cond, List, [], ◌∷◌, ◌++◌, filter, Option, Some, None, is_some, Result, Ok, Err, refl, sym, ap, subst, ◌∙◌, true≢false, append_assoc, add-one, get_or, arith}
use Rattle.std.specs.List.{Contains}
use Rattle.std.proofs.lemmas.List.{append-nil, length-append}
use Rattle.std.proofs.lemmas.List.Elements.{Contains-append_right}
use Rattle.std.proofs.lemmas.List.Quantifiers.{all_pairs_push}
use Rattle.ref_definitions.proofs.Appending.{all_mean}
use Rattle.ref_uri.specs.Targets.{Refusal}
use Rattle.serde_json.specs.Data.{Data}
use Rattle.ref_definitions.specs.World.{Document, Layer, World, document}
use Rattle.ref_definitions.specs.Places.{Place}
use Rattle.ref_definitions.specs.Resources.{meant_place}
use Rattle.ref_definitions.specs.Fault.{Fault, InvalidUri, RetrievalLimit}
use Rattle.ref_definitions.specs.Wants.{Want, Cause, Reference, MetaSchema, wants, faults, is_open, open_wants}
use Rattle.ref_definitions.specs.Preparing.{Given, IsRun, begun, retrieved, IsOutcome, faulty, limited, refused, ready, refusal_fault}
use Rattle.ref_definitions.specs.Closure.{IsRetrieved, AreRetrieved, IsClosure, IsReady, IsUsedUp, DocumentsAlone, FirstFaultAlone, OutcomeLaws}

-- ---- the first want that is open

first_step : (p : Want → Bool) (v : Want) (vs : List Want) (w : Want) (more : List Want) (b : Bool) → p v ≡ b → cond b (v ∷ filter p vs) (filter p vs) ≡ w ∷ more → (filter p vs ≡ w ∷ more → Contains vs w × (p w ≡ true)) → Contains (v ∷ vs) w × (p w ≡ true)
first_step p v vs w more true passes is later =
    let same : v ≡ w = cc in
    (subst (λ x. Contains (x ∷ vs) w) (sym same) (0, omega arith, refl), ap p (sym same) ∙ passes)
first_step p v vs w more false passes is later = let found = later is in (Contains-append_right (v ∷ []) vs w found.0, found.1)

first_passes : (p : Want → Bool) (ws : List Want) (w : Want) (more : List Want) → filter p ws ≡ w ∷ more → Contains ws w × (p w ≡ true)
first_passes p [] w more is = absurd (let e : [] ≡ w ∷ more = is in cc)
first_passes p (v ∷ vs) w more is = first_step p v vs w more (p v) refl is (first_passes p vs w more)

not_there : (o : Option Place) → not (is_some o) ≡ true → o ≡ None
not_there None unmet = refl
not_there (Some p) unmet = absurd (true≢false (sym unmet))

-- ---- what runs add

each_push : (given : Given) (before rs : Layer) (d : Document) → AreRetrieved given before rs → IsRetrieved given (before ++ rs) d → AreRetrieved given before (rs ++ d ∷ [])
each_push given before [] d each last = (subst (λ l. IsRetrieved given l d) (append-nil before) last, tt)
each_push given before (r ∷ rs) d each last =
    (each.0, each_push given (before ++ r ∷ []) rs d each.1 (subst (λ l. IsRetrieved given l d) (sym (append_assoc before (r ∷ []) rs)) last))

differs : (world : World) (d : Document) (uri : List ℕ) → is_some (meant_place world d.uri) ≡ true → meant_place world uri ≡ None → ¬ (d.uri ≡ uri)
differs world d uri there none same = true≢false (sym there ∙ ap (λ u. is_some (meant_place world u)) same ∙ ap is_some none)

more_retrieved : (given : Given) (n : ℕ) (layer : Layer) (want : Want) (more : List Want) (tree : Data)
    → open_wants (layer ∷ given.parents) layer ≡ want ∷ more → given.retriever.may_answer want.uri tree
    → IsClosure given n layer → IsClosure given (suc n) (layer ++ document given.draft want.uri tree ∷ [])
more_retrieved given n layer want more tree unmet answered closure =
    let d : Document = document given.draft want.uri tree in
    let first = first_passes (is_open (layer ∷ given.parents)) (wants layer) want more unmet in
    let none : meant_place (layer ∷ given.parents) want.uri ≡ None = not_there (meant_place (layer ∷ given.parents) want.uri) first.1 in
    let last : IsRetrieved given layer d = record { cause = want.cause; tree = tree; wanted = first.0; no_place = none; answered = answered; is = refl } in
    record {
      retrieved = closure.retrieved ++ d ∷ [];
      is = ap (λ l. l ++ d ∷ []) closure.is ∙ append_assoc given.documents closure.retrieved (d ∷ []);
      count = length-append closure.retrieved (d ∷ []) ∙ ap (λ k. k + 1) closure.count ∙ add-one n;
      each = each_push given given.documents closure.retrieved d closure.each (subst (λ l. IsRetrieved given l d) closure.is last);
      apart =
          all_pairs_push (λ e f. ¬ (e.uri ≡ f.uri)) closure.retrieved d closure.apart
          (λ k e within. differs ((given.documents ++ closure.retrieved) ∷ given.parents) (get_or closure.retrieved k e) want.uri
          (all_mean given.documents closure.retrieved given.parents k e within) (subst (λ l. meant_place (l ∷ given.parents) want.uri ≡ None) closure.is none));
    }

pub closure : (given : Given) (n : ℕ) (layer : Layer) → IsRun given n layer → IsClosure given n layer
closure given n layer begun =
    record { retrieved = []; is = sym (append-nil given.documents); count = refl; each = tt; apart = λ i j d less within. absurd (omega arith) }
closure given n layer (retrieved m before want tree run step) =
    more_retrieved given m before want step.next.more tree step.next.first_open step.answered (closure given m before run)

-- ---- outcomes

stays_ready : (given : Given) → open_wants (given.documents ∷ given.parents) given.documents ≡ [] → (n : ℕ) (layer : Layer) → IsRun given n layer → layer ≡ given.documents
stays_ready given closed n layer begun = refl
stays_ready given closed n layer (retrieved m before want tree run step) =
    absurd (let e : [] ≡ want ∷ step.next.more = sym closed ∙ subst (λ l. open_wants (l ∷ given.parents) l ≡ want ∷ step.next.more) (stays_ready given closed m before run) step.next.first_open in cc)

stays_faulty : (given : Given) (refusal : Refusal) (rest : List Refusal) → faults given.documents ≡ refusal ∷ rest → (n : ℕ) (layer : Layer) → IsRun given n layer → layer ≡ given.documents
stays_faulty given refusal rest first n layer begun = refl
stays_faulty given refusal rest first n layer (retrieved m before want tree run step) =
    absurd (let e : [] ≡ refusal ∷ rest = sym step.next.no_fault ∙ ap faults (stays_faulty given refusal rest first m before run) ∙ first in cc)

no_open : (given : Given) → open_wants (given.documents ∷ given.parents) given.documents ≡ [] → (n : ℕ) (layer : Layer) → IsRun given n layer → (want : Want) (more : List Want) → open_wants (layer ∷ given.parents) layer ≡ want ∷ more → ⊥
no_open given closed n layer run want more unmet =
    let e : [] ≡ want ∷ more = sym closed ∙ subst (λ l. open_wants (l ∷ given.parents) l ≡ want ∷ more) (stays_ready given closed n layer run) unmet in cc

pub documents_alone : (given : Given) (answer : Result Layer Fault) → DocumentsAlone given answer
documents_alone given answer none closed (faulty refusal end) =
    absurd (let e : [] ≡ refusal ∷ end.more = sym none ∙ ap faults (sym (stays_ready given closed end.count end.layer end.run)) ∙ end.first_fault in cc)
documents_alone given answer none closed (limited want end) = absurd (no_open given closed given.limit end.layer end.run want end.next.more end.next.first_open)
documents_alone given answer none closed (refused want text end) = absurd (no_open given closed end.count end.layer end.run want end.next.more end.next.first_open)
documents_alone given answer none closed (ready layer end) = ap Ok (stays_ready given closed end.count layer end.run)

no_clean : (given : Given) (refusal : Refusal) (rest : List Refusal) → faults given.documents ≡ refusal ∷ rest → (n : ℕ) (layer : Layer) → IsRun given n layer → faults layer ≡ [] → ⊥
no_clean given refusal rest first n layer run clean =
    let e : [] ≡ refusal ∷ rest = sym clean ∙ ap faults (stays_faulty given refusal rest first n layer run) ∙ first in cc

pub first_fault_alone : (given : Given) (answer : Result Layer Fault) → FirstFaultAlone given answer
first_fault_alone given answer refusal rest first (faulty other end) =
    let same : other ∷ end.more ≡ refusal ∷ rest = sym end.first_fault ∙ ap faults (stays_faulty given refusal rest first end.count end.layer end.run) ∙ first in
    let e : other ≡ refusal = cc in ap (λ r. Err (InvalidUri r)) e
first_fault_alone given answer refusal rest first (limited want end) = absurd (no_clean given refusal rest first given.limit end.layer end.run end.next.no_fault)
first_fault_alone given answer refusal rest first (refused want text end) = absurd (no_clean given refusal rest first end.count end.layer end.run end.next.no_fault)
first_fault_alone given answer refusal rest first (ready layer end) = absurd (no_clean given refusal rest first end.count layer end.run end.no_fault)

is_ready : (given : Given) (layer : Layer) (answer : Result Layer Fault) → answer ≡ Ok layer → IsOutcome given answer → IsReady given layer
is_ready given layer answer is (faulty refusal end) = absurd (cc)
is_ready given layer answer is (limited want end) = absurd (cc)
is_ready given layer answer is (refused want text end) = absurd (cc)
is_ready given layer answer is (ready before end) =
    let same : before ≡ layer = cc in
    subst (λ l. IsReady given l) same (record { count = end.count; within = end.within; closure = closure given end.count before end.run; no_fault = end.no_fault; no_want = end.no_want })

-- a refusal of the retriever is another fault than the limit
no_limit : (cause : Cause) (wanted text uri : List ℕ) (limit : ℕ) → refusal_fault cause wanted text ≡ RetrievalLimit uri limit → ⊥
no_limit Reference wanted text uri limit is = cc
no_limit MetaSchema wanted text uri limit is = cc

is_used_up : (given : Given) (uri : List ℕ) (limit : ℕ) (answer : Result Layer Fault) → answer ≡ Err (RetrievalLimit uri limit) → IsOutcome given answer → IsUsedUp given uri limit
is_used_up given uri limit answer is (faulty refusal end) = absurd (cc)
is_used_up given uri limit answer is (limited want end) =
    let same : want.uri ≡ uri = cc in
    let count : limit ≡ given.limit = cc in
    record {
      is = count;
      layer = end.layer;
      closure = closure given given.limit end.layer end.run;
      cause = want.cause;
      more = end.next.more;
      open_want = subst (λ u. open_wants (end.layer ∷ given.parents) end.layer ≡ record { cause = want.cause; uri = u } ∷ end.next.more) same end.next.first_open;
    }
is_used_up given uri limit answer is (refused want text end) =
    let same : refusal_fault want.cause want.uri text ≡ RetrievalLimit uri limit = cc in absurd (no_limit want.cause want.uri text uri limit same)
is_used_up given uri limit answer is (ready layer end) = absurd (cc)

pub outcome_laws : (given : Given) → OutcomeLaws given
outcome_laws given = record {
  retrieved = closure given;
  ready = λ layer outcome. is_ready given layer (Ok layer) refl outcome;
  used_up = λ uri limit outcome. is_used_up given uri limit (Err (RetrievalLimit uri limit)) refl outcome;
  documents = documents_alone given;
  first_fault = first_fault_alone given;
}
