-- Replies to calls that change no registry.
use Rattle.std.proofs.Common.{◌≡◌, ℕ, List, Option, Some, Result, Ok, Err, codes, refl, sym, subst}
use Rattle.serde_json.specs.Data.{Data}
use Rattle.serde_json.specs.Find.{get}
use Rattle.serde_json.specs.View.{view}
use Rattle.serde_json.specs.declared.value.Value.{Value}
use Rattle.ref_calls.specs.declared.call.Call.{Call}
use Rattle.ref_calls.specs.declared.call.Call.TheVariants.{Hello, Uri, DraftOf, Yaml, Faults, Open, Lookup, Recursive, Enter, Follow, Scope, Places, Survey, References, Dangling, Compare, Vocabularies, Bundle, Close}
use Rattle.ref_json.specs.declared.stop.Stop.{Stop}
use Rattle.ref_json.specs.declared.stop.Stop.TheVariants.{Memory, Because}
use Rattle.ref_serve.specs.declared.answer.Reply.{Reply}
use Rattle.ref_serve.specs.State.{Registries}
use Rattle.ref_json.specs.Text.{tree_of}
use Rattle.ref_calls.specs.Calls.{call_of}
use Rattle.ref_calls.specs.Objects.{answer_of, IsLineOf}
use Rattle.ref_calls.specs.Outcome.{Gives}
use Rattle.ref_serve.specs.Answering.{IsFaults, IsReply, IsReplyTo, IsAnswerTo, IsAnswer}
use Rattle.ref_serve.specs.inner.Replies.{Replies, IsRead, IsUnchanged, registries_after}

as_reply : (call : Call) (state next : Registries) (d : Data) (outcome : Result Data Data) → (call ≡ Open → ⊥) → (call ≡ Close → ⊥) → (call ≡ Scope → ⊥) → (call ≡ Faults → ⊥) → IsUnchanged call state d next outcome → IsReply call state d next outcome
as_reply Open state next d outcome other another kept third given = absurd (other refl)
as_reply Hello state next d outcome other another kept third given = given
as_reply Uri state next d outcome other another kept third given = given
as_reply DraftOf state next d outcome other another kept third given = given
as_reply Yaml state next d outcome other another kept third given = given
as_reply Faults state next d outcome other another kept third given = absurd (third refl)
as_reply Scope state next d outcome other another kept third given = absurd (kept refl)
as_reply Lookup state next d outcome other another kept third given = given
as_reply Recursive state next d outcome other another kept third given = given
as_reply Enter state next d outcome other another kept third given = given
as_reply Follow state next d outcome other another kept third given = given
as_reply Places state next d outcome other another kept third given = given
as_reply Survey state next d outcome other another kept third given = given
as_reply References state next d outcome other another kept third given = given
as_reply Dangling state next d outcome other another kept third given = given
as_reply Compare state next d outcome other another kept third given = given
as_reply Vocabularies state next d outcome other another kept third given = given
as_reply Bundle state next d outcome other another kept third given = given
as_reply Close state next d outcome other another kept third given = absurd (another refl)

pub replies : (call : Call) (state : Registries) (d : Data) (read : Result Call Data) (result : Result Reply (Stop Value)) → read ≡ Ok call → (call ≡ Open → ⊥) → (call ≡ Close → ⊥) → (call ≡ Scope → ⊥) → (call ≡ Faults → ⊥)
    → Replies (IsUnchanged call state d) state result → Replies (IsReplyTo read state d) state result
replies call state d read (Ok reply) is other another kept third given =
    let next = registries_after state reply.change in
    subst (λ r. IsReplyTo r state d next (Ok (view reply.result))) (sym is) (as_reply call state next d (Ok (view reply.result)) other another kept third given)
replies call state d read (Err Memory) is other another kept third given = tt
replies call state d read (Err (Because value)) is other another kept third given =
    subst (λ r. IsReplyTo r state d state (Err (view value))) (sym is) (as_reply call state state d (Err (view value)) other another kept third given)

pub stopped : (call : Call) (state : Registries) (d : Data) (stop : Stop Value) → Gives (IsRead call state d) (Err stop) → Replies (IsUnchanged call state d) state (Err stop)
stopped call state d Memory given = tt
stopped call state d (Because value) given = (given, refl)

pub faulty_stopped : (state : Registries) (d : Data) (stop : Stop Value) → Gives (IsFaults d) (Err stop) → Replies (IsReply Faults state d) state (Err stop)
faulty_stopped state d Memory given = tt
faulty_stopped state d (Because value) given = (given, refl)

-- ---- lines

pub answered : (state next : Registries) (line text : List ℕ) (tree : Option Data) → tree ≡ tree_of line → IsAnswerTo state line tree next text → IsAnswer state line next text
unfolding IsAnswer
answered state next line text tree is given = subst (λ t. IsAnswerTo state line t next text) is given

pub failed : (state next : Registries) (line : List ℕ) (d : Data) (id : Option Data) (error : Data) (text : List ℕ) → id ≡ get (codes "id") d → next ≡ state
    → IsReplyTo (call_of d) state d state (Err error) → IsLineOf (answer_of id (codes "error") error) text → IsAnswerTo state line (Some d) next text
failed state next line d id error text is same reply written =
    (Err error, subst (λ n. IsReplyTo (call_of d) state d n (Err error)) (sym same) reply, subst (λ i. IsLineOf (answer_of i (codes "error") error) text) is written)
