-- Worlds of requests: there is one, and what calls of `referencing` return is it.
use Rattle.std.proofs.Common.{◌≡◌, ℕ, List, [], Option, Some, None, unwrap_or, Result, Ok, Err, refl, sym, ap, subst, ◌∙◌}
use Rattle.std.specs.declared.alloc.AllocError.{AllocError}
use Rattle.ref_uri.specs.Targets.{Refusal}
use Rattle.ref_definitions.specs.World.{World}
use Rattle.ref_definitions.specs.Fault.{Fault}
use Rattle.ref_definitions.specs.Preparing.{Given}
use Rattle.ref_definitions.specs.Pending.{Pending}
use Rattle.ref_definitions.specs.Follow.{Followed}
use Rattle.ref_error.specs.declared.error.Error.{Error}
use Rattle.ref_error.specs.declared.error.Error.TheVariants as error
use Rattle.ref_error.specs.Errors.{SaysFault, UnlessMemory}
use Rattle.referencing.specs.Following.{SaysStepFault}
use Rattle.ref_report.specs.declared.request.BadRequest.{BadRequest}
use Rattle.ref_report.specs.Request.{Document, Request}
use Rattle.referencing.specs.MetaSchemas.{given_of_meta_schemas}
use Rattle.ref_registries.specs.Worlds.{pending_of, above_parents, IsWorld}
use Rattle.ref_report.specs.Worlds.{AreParents, given_of_request}
use Rattle.ref_report.specs.Report.{Report, IsReportAbove, IsReadReport, world_report}
use Rattle.ref_definitions.proofs.Outcomes.{IsDetermined, map_is_determined, default_is_determined, one_outcome}

-- ---- there is one

one_world : (given : List Pending → Given) (pending : Result (List Pending) Refusal) (a b : Result World Fault) → ((ps : List Pending) → IsDetermined (given ps).retriever) → IsWorld given pending a → IsWorld given pending b → a ≡ b
one_world given (Ok ps) a b determined (one, first, is) (other, second, is') =
    is ∙ ap (above_parents (given ps).parents) (one_outcome (given ps) (determined ps) one other first second) ∙ sym is'
one_world given (Err refusal) a b determined is is' = is ∙ sym is'

one_parents : (meta : Option (List Document)) (a b : Result World Fault) → AreParents meta a → AreParents meta b → a ≡ b
one_parents None a b is is' = is ∙ sym is'
one_parents (Some ds) a b is is' = one_world given_of_meta_schemas (pending_of ds) a b (λ ps. default_is_determined) is is'

one_above : (r : Request) (parents : Result World Fault) (a b : Report) → IsReportAbove r parents a → IsReportAbove r parents b → a ≡ b
one_above r (Ok parents) a b (one, first, is) (other, second, is') =
    is ∙ ap (world_report r) (one_world (given_of_request r parents) (pending_of r.documents) one other (λ ps. map_is_determined (unwrap_or r.remote [])) first second) ∙ sym is'
one_above r (Err fault) a b is is' = is ∙ sym is'

pub one_report : (read : Result Request BadRequest) (a b : Report) → IsReadReport read a → IsReadReport read b → a ≡ b
one_report (Ok r) a b (one, first, is) (other, second, is') =
    one_above r one a b is (subst (λ x. IsReportAbove r x b) (sym (one_parents r.meta one other first second)) is')
one_report (Err bad) a b is is' = is ∙ sym is'

-- ---- what errors say

pub unless_step : (r : Result Followed (ℕ × Fault)) (n : ℕ) (e : Error) → SaysStepFault r n e → UnlessMemory ((fault : Fault) × (r ≡ Err (n, fault)) × SaysFault e fault) e
unless_step r n (error.Unretrievable uri source) is = is
unless_step r n (error.PointerToNowhere pointer) is = is
unless_step r n (error.InvalidPercentEncoding pointer) is = is
unless_step r n (error.InvalidArrayIndex pointer index) is = is
unless_step r n (error.NoSuchAnchor anchor) is = is
unless_step r n (error.InvalidAnchor anchor) is = is
unless_step r n (error.InvalidUri uri) is = is
unless_step r n (error.UnknownSpecification specification) is = is
unless_step r n (error.CircularMetaschema uri) is = is
unless_step r n (error.RetrievalLimit uri limit) is = is
unless_step r n (error.Memory memory) is = tt

pub given_no_memory : {P : Type 0} (e : Error) → ((memory : AllocError) → ¬ (e ≡ error.Memory memory)) → UnlessMemory P e → P
given_no_memory (error.Unretrievable uri source) other is = is
given_no_memory (error.PointerToNowhere pointer) other is = is
given_no_memory (error.InvalidPercentEncoding pointer) other is = is
given_no_memory (error.InvalidArrayIndex pointer index) other is = is
given_no_memory (error.NoSuchAnchor anchor) other is = is
given_no_memory (error.InvalidAnchor anchor) other is = is
given_no_memory (error.InvalidUri uri) other is = is
given_no_memory (error.UnknownSpecification specification) other is = is
given_no_memory (error.CircularMetaschema uri) other is = is
given_no_memory (error.RetrievalLimit uri limit) other is = is
given_no_memory (error.Memory memory) other is = absurd (other memory refl)
