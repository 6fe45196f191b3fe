-- Which fault an error says, and what a call gives.
use Rattle.std.proofs.Common.{◌≡◌, refl, sym, ap, subst, List, ℕ, Result, Ok, Err}
use Rattle.std.specs.Result.{IsErrAnd, IfErr}
use Rattle.ref_uri.specs.Targets.{Refusal}
use Rattle.ref_uri.specs.Errors as uri
use Rattle.ref_uri.specs.Errors.{SaysRefusal}
use Rattle.ref_uri.specs.declared.error.UriError.{UriError}
use Rattle.ref_uri.specs.declared.error.UriFault.{UriFault}
use Rattle.ref_uri.specs.declared.error.UriFault.TheVariants as uri_fault
use Rattle.ref_definitions.specs.Results.{◌>>=◌}
use Rattle.ref_definitions.specs.Fault.{Fault, InvalidUri, as_invalid_uri}
use Rattle.ref_error.specs.declared.error.Error.{Error}
use Rattle.ref_error.specs.declared.error.Error.TheVariants as error
use Rattle.ref_error.specs.Errors.{IsFaultOf, Gives, SaysOrMemory, of_uri_fault}

-- the error of a refusal says the fault that the refusal is
pub refusal_said : {A : Type 0} (refusal : Refusal) (refused : UriError) → SaysRefusal refused refusal → IsFaultOf {A = A} (Err (InvalidUri refusal)) (error.InvalidUri refused)
refusal_said refusal refused says = (InvalidUri refusal, refl, says)

-- where a URI is refused, so is what goes on from it
pub refused_then : {B : Type 0} (meaning : Result (List ℕ) Refusal) (next : List ℕ → Result B Refusal) (fault : UriFault) → uri.IsFaultOf meaning fault → IsFaultOf (as_invalid_uri (meaning >>= next)) (of_uri_fault fault)
refused_then meaning next (uri_fault.Invalid refused) (refusal, is, says) = (InvalidUri refusal, ap (λ m. as_invalid_uri (m >>= next)) is, says)
refused_then meaning next (uri_fault.Memory memory) is = tt

-- the error of a refused URI says the fault that its meaning is
pub refused_uri : (meaning : Result (List ℕ) Refusal) (fault : UriFault) → uri.IsFaultOf meaning fault → IsFaultOf (as_invalid_uri meaning) (of_uri_fault fault)
refused_uri meaning (uri_fault.Invalid refused) (refusal, is, says) = (InvalidUri refusal, ap as_invalid_uri is, says)
refused_uri meaning (uri_fault.Memory memory) is = tt

-- an answer of a meaning whose refusals are faults is an answer of that meaning
pub uri_meant : {A : Type 0} (meaning : Result A Refusal) (x : A) → as_invalid_uri meaning ≡ Ok x → meaning ≡ Ok x
uri_meant (Ok y) x is = (let same : y ≡ x = cc in ap (λ z. Ok z) same)
uri_meant (Err refusal) x is = cc

-- a call that passes an error on returns what it says
pub fault_passed : {X A : Type 0} (r : Result X Error) (e : Error) (meaning : Result A Fault) → IsErrAnd r (λ y. y ≡ e) → IsFaultOf meaning e → IfErr r (IsFaultOf meaning)
fault_passed (Ok x) e meaning is fault = absurd is
fault_passed (Err y) e meaning is fault = subst (IsFaultOf meaning) (sym is) fault

-- an error that says the fault that an answer is
pub says_of : {A : Type 0} (answer : Result A Fault) (fault : Fault) (e : Error) → answer ≡ Err fault → SaysOrMemory fault e → IsFaultOf answer e
says_of answer fault (error.Unretrievable uri source) is says = (fault, is, says)
says_of answer fault (error.PointerToNowhere pointer) is says = (fault, is, says)
says_of answer fault (error.InvalidPercentEncoding pointer) is says = (fault, is, says)
says_of answer fault (error.InvalidArrayIndex pointer index) is says = (fault, is, says)
says_of answer fault (error.NoSuchAnchor anchor) is says = (fault, is, says)
says_of answer fault (error.InvalidAnchor anchor) is says = (fault, is, says)
says_of answer fault (error.InvalidUri uri) is says = (fault, is, says)
says_of answer fault (error.UnknownSpecification specification) is says = (fault, is, says)
says_of answer fault (error.CircularMetaschema uri) is says = (fault, is, says)
says_of answer fault (error.RetrievalLimit uri limit) is says = (fault, is, says)
says_of answer fault (error.Memory memory) is says = tt

-- where each fault of one answer is one of another, what says the first says the second
pub fault_as : {A B : Type 0} (answer : Result A Fault) (other : Result B Fault) (e : Error) → ((fault : Fault) → answer ≡ Err fault → other ≡ Err fault) → IsFaultOf answer e → IsFaultOf other e
fault_as answer other (error.Unretrievable uri source) then (fault, is, says) = (fault, then fault is, says)
fault_as answer other (error.PointerToNowhere pointer) then (fault, is, says) = (fault, then fault is, says)
fault_as answer other (error.InvalidPercentEncoding pointer) then (fault, is, says) = (fault, then fault is, says)
fault_as answer other (error.InvalidArrayIndex pointer index) then (fault, is, says) = (fault, then fault is, says)
fault_as answer other (error.NoSuchAnchor anchor) then (fault, is, says) = (fault, then fault is, says)
fault_as answer other (error.InvalidAnchor anchor) then (fault, is, says) = (fault, then fault is, says)
fault_as answer other (error.InvalidUri uri) then (fault, is, says) = (fault, then fault is, says)
fault_as answer other (error.UnknownSpecification specification) then (fault, is, says) = (fault, then fault is, says)
fault_as answer other (error.CircularMetaschema uri) then (fault, is, says) = (fault, then fault is, says)
fault_as answer other (error.RetrievalLimit uri limit) then (fault, is, says) = (fault, then fault is, says)
fault_as answer other (error.Memory memory) then is = tt

-- a call that passes an error on gives what it says
pub gives_error : {A X : Type 0} (view : X → A) (meaning : Result A Fault) (r : Result X Error) (e : Error) → IsErrAnd r (λ y. y ≡ e) → IsFaultOf meaning e → Gives view meaning r
gives_error view meaning (Ok x) e is fault = absurd is
gives_error view meaning (Err y) e is fault = subst (IsFaultOf meaning) (sym is) fault
