-- What look-ups give.
use Rattle.std.proofs.Common.{◌≡◌, ℕ, false, List, Option, None, Some, option_map, Result, Ok, Err, refl, ap, sym, ◌∙◌}
use Rattle.std.specs.Result.{result_ok}
use Rattle.ref_uri.specs.Targets.{Refusal}
use Rattle.ref_definitions.specs.Fault.{Fault, as_invalid_uri}
use Rattle.ref_definitions.specs.Lookup.{Resolver, Found, lookup}
use Rattle.ref_definitions.specs.World.{World}
use Rattle.ref_error.specs.declared.error.Error.{Error}
use Rattle.ref_error.specs.declared.error.Error.TheVariants as error
use Rattle.ref_error.specs.Errors.{IsFaultOf, SaysFault, is_memory}
use Rattle.ref_resolver.specs.Locations.{lookup_location}
use Rattle.ref_changes.specs.Answers.{Answer, Fails, fault_name, answer_by, answer_from}

-- an error that is not that memory ran out says the fault
pub says_fault : {A : Type 0} (meaning : Result A Fault) (e : Error) → is_memory e ≡ false → IsFaultOf meaning e → (f : Fault) × (meaning ≡ Err f) × SaysFault e f
says_fault meaning (error.Unretrievable uri source) none is = is
says_fault meaning (error.PointerToNowhere pointer) none is = is
says_fault meaning (error.InvalidPercentEncoding pointer) none is = is
says_fault meaning (error.InvalidArrayIndex pointer index) none is = is
says_fault meaning (error.NoSuchAnchor anchor) none is = is
says_fault meaning (error.InvalidAnchor anchor) none is = is
says_fault meaning (error.InvalidUri uri) none is = is
says_fault meaning (error.UnknownSpecification specification) none is = is
says_fault meaning (error.CircularMetaschema uri) none is = is
says_fault meaning (error.RetrievalLimit uri limit) none is = is
says_fault meaning (error.Memory memory) none is = cc

-- ---- a text that means a URI or none

pub meant : {A : Type 0} (r : Result A Refusal) (x : A) → as_invalid_uri r ≡ Ok x → r ≡ Ok x
meant (Ok y) x is = cc
meant (Err refusal) x is = cc

pub not_meant : {A : Type 0} (r : Result A Refusal) (f : Fault) → as_invalid_uri r ≡ Err f → result_ok r ≡ None
not_meant (Ok y) f is = cc
not_meant (Err refusal) f is = refl

-- the same of a call that is refused
pub refused : {A : Type 0} (r : Result A Refusal) (e : Error) → is_memory e ≡ false → IsFaultOf (as_invalid_uri r) e → result_ok r ≡ None
refused r e none is = let said = says_fault (as_invalid_uri r) e none is in not_meant r said.0 said.1

-- ---- answers

-- a reference that fails
pub fails : (world : World) (r : Resolver) (reference : List ℕ) (e : Error) (name : List ℕ) → is_memory e ≡ false → IsFaultOf (lookup world r reference) e
    → ((f : Fault) → SaysFault e f → name ≡ fault_name f) → Fails name ≡ answer_from world r reference
fails world r reference e name none is named =
    let said = says_fault (lookup world r reference) e none is in
    ap Fails (named said.0 said.2) ∙ sym (ap (answer_by (lookup_location world r reference)) said.1)
