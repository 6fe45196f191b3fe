-- Which fault an error says, in a chain of answers.
use Rattle.std.proofs.Common.{◌≡◌, Result, Ok, Err, ap}
use Rattle.ref_uri.specs.Targets.{Refusal}
use Rattle.ref_definitions.specs.Results.{◌>>=◌}
use Rattle.ref_definitions.specs.Fault.{Fault, InvalidUri, as_invalid_uri}
use Rattle.ref_error.specs.declared.error.Error.{Error}
use Rattle.ref_error.specs.Errors.{IsFaultOf}
use Rattle.ref_error.proofs.Saying.{fault_as}

-- an answer that is a fault ends the chain
pub ends : {A B : Type 0} (answer : Result A Fault) (next : A → Result B Fault) (fault : Fault) → answer ≡ Err fault → (answer >>= next) ≡ Err fault
ends answer next fault is = ap (λ a. a >>= next) is

-- and one that is none goes on
pub goes_on : {E A B : Type 0} (answer : Result A E) (next : A → Result B E) (x : A) → answer ≡ Ok x → (answer >>= next) ≡ next x
goes_on answer next x is = ap (λ a. a >>= next) is

pub fault_ends : {A B : Type 0} (answer : Result A Fault) (next : A → Result B Fault) (e : Error) → IsFaultOf answer e → IsFaultOf (answer >>= next) e
fault_ends answer next e = fault_as answer (answer >>= next) e (ends answer next)

-- a refused URI, whatever goes on from the URI
pub refused_after : {A B : Type 0} (answer : Result A Refusal) (next : A → B) (fault : Fault) → as_invalid_uri answer ≡ Err fault → as_invalid_uri (answer >>= λ x. Ok (next x)) ≡ Err fault
refused_after (Ok x) next fault is = cc
refused_after (Err refusal) next fault is = (let same : InvalidUri refusal ≡ fault = cc in ap (λ f. Err f) same)
