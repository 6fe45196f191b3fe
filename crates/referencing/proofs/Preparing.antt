-- What outcomes say of a registry and of the limit.
use Rattle.std.proofs.Common.{◌≡◌, ◌∙◌, ℕ, List, map, Ok, Err, ap, sym, subst}
use Rattle.ref_draft.specs.declared.draft.Draft.{Draft}
use Rattle.ref_definitions.specs.World.{Layer, World}
use Rattle.ref_definitions.specs.Fault as fault
use Rattle.ref_definitions.specs.Fault.{Fault}
use Rattle.ref_definitions.specs.Preparing.{Retriever, Given, IsOutcome}
use Rattle.ref_definitions.specs.Closure.{IsReady, IsUsedUp}
use Rattle.ref_definitions.specs.Pending.{builder_draft, document_of}
use Rattle.ref_definitions.proofs.Closure.{outcome_laws}
use Rattle.ref_error.specs.declared.error.Error.{Error}
use Rattle.ref_error.specs.declared.error.Error.TheVariants as error
use Rattle.ref_index.specs.Retrieval.{given_with, IsFaultyOutcome}
use Rattle.referencing.specs.Builder.{Builder}
use Rattle.referencing.specs.Prepared.{given_of, LimitIsUsedUp, AreComplete}
use Rattle.ref_error.specs.Errors.{IsMemory}

-- what a builder gives, given by its draft, the indexes of its parents and its documents
pub given_by : {R : Type 0} (P : Given → Type 0) (retriever : Retriever) (b : Builder R) (draft : Draft) (parents : World) (documents : Layer) → draft ≡ builder_draft b.draft → parents ≡ b.parents
    → documents ≡ map (document_of draft) b.pending → P (given_with retriever b.limit draft parents documents) → P (given_of retriever b)
given_by P retriever b draft parents documents set above added is =
    subst (λ x. P (given_with retriever b.limit (builder_draft b.draft) b.parents x)) (added ∙ ap (λ d. map (document_of d) b.pending) set)
    (subst (λ x. P (given_with retriever b.limit (builder_draft b.draft) x documents)) above (subst (λ d. P (given_with retriever b.limit d parents documents)) set is))

pub ready_of : (g : Given) (layer : Layer) → IsOutcome g (Ok layer) → IsReady g layer
ready_of g layer outcome = (outcome_laws g).ready layer outcome

pub limit_of : (g : Given) (e : Error) → IsFaultyOutcome g e → LimitIsUsedUp g e
limit_of g (error.Unretrievable uri source) is = tt
limit_of g (error.PointerToNowhere pointer) is = tt
limit_of g (error.InvalidPercentEncoding pointer) is = tt
limit_of g (error.InvalidArrayIndex pointer index) is = tt
limit_of g (error.NoSuchAnchor anchor) is = tt
limit_of g (error.InvalidAnchor anchor) is = tt
limit_of g (error.InvalidUri uri) is = tt
limit_of g (error.UnknownSpecification specification) is = tt
limit_of g (error.CircularMetaschema uri) is = tt
limit_of g (error.RetrievalLimit uri limit) (fault.RetrievalLimit wanted most, outcome, says) =
    subst (λ u. IsUsedUp g u limit) (sym says.0) (subst (λ n. IsUsedUp g wanted n) (sym says.1) ((outcome_laws g).used_up wanted most outcome))
limit_of g (error.RetrievalLimit uri limit) (fault.Unretrievable a b, outcome, says) = absurd says
limit_of g (error.RetrievalLimit uri limit) (fault.PointerToNowhere a, outcome, says) = absurd says
limit_of g (error.RetrievalLimit uri limit) (fault.InvalidPercentEncoding a, outcome, says) = absurd says
limit_of g (error.RetrievalLimit uri limit) (fault.InvalidArrayIndex a b, outcome, says) = absurd says
limit_of g (error.RetrievalLimit uri limit) (fault.NoSuchAnchor a, outcome, says) = absurd says
limit_of g (error.RetrievalLimit uri limit) (fault.InvalidAnchor a, outcome, says) = absurd says
limit_of g (error.RetrievalLimit uri limit) (fault.InvalidUri a, outcome, says) = absurd says
limit_of g (error.RetrievalLimit uri limit) (fault.UnknownSpecification a, outcome, says) = absurd says
limit_of g (error.RetrievalLimit uri limit) (fault.CircularMetaschema a, outcome, says) = absurd says
limit_of g (error.Memory memory) is = tt

-- ---- documents without a fault and an open want

-- no fault is an outcome of them
no_other : (g : Given) (f : Fault) → AreComplete g → IsOutcome g (Err f) → ⊥
no_other g f complete outcome = let e : Err f ≡ Ok g.documents = (outcome_laws g).documents (Err f) complete.0 complete.1 outcome in cc

pub memory_alone : (g : Given) (e : Error) → AreComplete g → IsFaultyOutcome g e → IsMemory e
memory_alone g (error.Unretrievable uri source) complete (f, outcome, says) = absurd (no_other g f complete outcome)
memory_alone g (error.PointerToNowhere pointer) complete (f, outcome, says) = absurd (no_other g f complete outcome)
memory_alone g (error.InvalidPercentEncoding pointer) complete (f, outcome, says) = absurd (no_other g f complete outcome)
memory_alone g (error.InvalidArrayIndex pointer index) complete (f, outcome, says) = absurd (no_other g f complete outcome)
memory_alone g (error.NoSuchAnchor anchor) complete (f, outcome, says) = absurd (no_other g f complete outcome)
memory_alone g (error.InvalidAnchor anchor) complete (f, outcome, says) = absurd (no_other g f complete outcome)
memory_alone g (error.InvalidUri uri) complete (f, outcome, says) = absurd (no_other g f complete outcome)
memory_alone g (error.UnknownSpecification specification) complete (f, outcome, says) = absurd (no_other g f complete outcome)
memory_alone g (error.CircularMetaschema uri) complete (f, outcome, says) = absurd (no_other g f complete outcome)
memory_alone g (error.RetrievalLimit uri limit) complete (f, outcome, says) = absurd (no_other g f complete outcome)
memory_alone g (error.Memory memory) complete is = tt

pub documents_alone : (g : Given) (layer : Layer) → AreComplete g → IsOutcome g (Ok layer) → layer ≡ g.documents
documents_alone g layer complete outcome = let e : Ok layer ≡ Ok g.documents = (outcome_laws g).documents (Ok layer) complete.0 complete.1 outcome in cc
