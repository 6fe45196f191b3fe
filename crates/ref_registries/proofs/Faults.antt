-- What errors say, unless memory ran out.
use Rattle.std.proofs.Common.{◌≡◌, Result, Err}
use Rattle.ref_definitions.specs.Fault.{Fault}
use Rattle.ref_error.specs.declared.error.Error.{Error}
use Rattle.ref_error.specs.declared.error.Error.TheVariants as error
use Rattle.ref_error.specs.Errors.{SaysFault, IsFaultOf, UnlessMemory}

pub unless_fault : {A : Type 0} (r : Result A Fault) (e : Error) → IsFaultOf r e → UnlessMemory ((fault : Fault) × (r ≡ Err fault) × SaysFault e fault) e
unless_fault r (error.Unretrievable uri source) is = is
unless_fault r (error.PointerToNowhere pointer) is = is
unless_fault r (error.InvalidPercentEncoding pointer) is = is
unless_fault r (error.InvalidArrayIndex pointer index) is = is
unless_fault r (error.NoSuchAnchor anchor) is = is
unless_fault r (error.InvalidAnchor anchor) is = is
unless_fault r (error.InvalidUri uri) is = is
unless_fault r (error.UnknownSpecification specification) is = is
unless_fault r (error.CircularMetaschema uri) is = is
unless_fault r (error.RetrievalLimit uri limit) is = is
unless_fault r (error.Memory memory) is = tt
