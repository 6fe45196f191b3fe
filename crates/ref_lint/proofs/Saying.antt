-- What errors say of references that are looked up.
use Rattle.std.proofs.Common.{◌≡◌, ℕ, true, false, List, [], ◌∷◌, Option, Some, None, Result, Ok, Err, refl, ap, subst, ◌∙◌}
use Rattle.std.specs.Result.{result_err}
use Rattle.ref_paths.specs.Path.{Part}
use Rattle.ref_definitions.specs.World.{World}
use Rattle.ref_definitions.specs.Fault as fault
use Rattle.ref_definitions.specs.Fault.{Fault}
use Rattle.ref_definitions.specs.Lookup.{lookup}
use Rattle.ref_error.specs.declared.error.Error.{Error}
use Rattle.ref_error.specs.declared.error.Error.TheVariants as error
use Rattle.ref_error.specs.Errors.{SaysFault, IsFaultOf, Gives, IsMemory, is_memory}
use Rattle.ref_lint.specs.Dangling.{where_fault, dangling_from}
use Rattle.ref_lint.specs.Entries.{IsUnretrievable}

-- a fault that is said to be that a document could not be retrieved
unretrieved_says : (e : Error) (f : Fault) → IsUnretrievable e → SaysFault e f → (uri : List ℕ) × (source : List ℕ) × (f ≡ fault.Unretrievable uri source)
unretrieved_says (error.Unretrievable uri source) (fault.Unretrievable wanted text) is says = (wanted, text, refl)
unretrieved_says (error.Unretrievable uri source) (fault.PointerToNowhere pointer) is says = absurd says
unretrieved_says (error.Unretrievable uri source) (fault.InvalidPercentEncoding pointer) is says = absurd says
unretrieved_says (error.Unretrievable uri source) (fault.InvalidArrayIndex pointer index) is says = absurd says
unretrieved_says (error.Unretrievable uri source) (fault.NoSuchAnchor anchor) is says = absurd says
unretrieved_says (error.Unretrievable uri source) (fault.InvalidAnchor anchor) is says = absurd says
unretrieved_says (error.Unretrievable uri source) (fault.InvalidUri refusal) is says = absurd says
unretrieved_says (error.Unretrievable uri source) (fault.UnknownSpecification specification) is says = absurd says
unretrieved_says (error.Unretrievable uri source) (fault.CircularMetaschema at) is says = absurd says
unretrieved_says (error.Unretrievable uri source) (fault.RetrievalLimit at limit) is says = absurd says
unretrieved_says (error.PointerToNowhere pointer) f is says = absurd is
unretrieved_says (error.InvalidPercentEncoding pointer) f is says = absurd is
unretrieved_says (error.InvalidArrayIndex pointer index) f is says = absurd is
unretrieved_says (error.NoSuchAnchor anchor) f is says = absurd is
unretrieved_says (error.InvalidAnchor anchor) f is says = absurd is
unretrieved_says (error.InvalidUri uri) f is says = absurd is
unretrieved_says (error.UnknownSpecification specification) f is says = absurd is
unretrieved_says (error.CircularMetaschema uri) f is says = absurd is
unretrieved_says (error.RetrievalLimit uri limit) f is says = absurd is
unretrieved_says (error.Memory memory) f is says = absurd is

-- an error says no such fault where the fault is none
pub says_another : (e : Error) (f : Fault) → ((uri source : List ℕ) → ¬ (f ≡ fault.Unretrievable uri source)) → SaysFault e f → ¬ (IsUnretrievable e)
says_another e f other says is = let said = unretrieved_says e f is says in other said.0 said.1 said.2

-- ---- the reference of a place

pub unresolvable_problem : (world : World) (number : ℕ) (path : List Part) (base reference : List ℕ) (text : Option (List ℕ)) (f : Fault) → text ≡ Some reference
    → lookup world (record { base = base; scope = [] }) reference ≡ Err f
    → dangling_from world number path (Ok base) text ≡ record { document = number; path = path; reference = reference; fault = f } ∷ []
unresolvable_problem world number path base reference text f is leads =
    ap (dangling_from world number path (Ok base)) is ∙ ap (where_fault number path reference) leads

-- ---- what a call gives

-- there is no error
pub given_answer : {A X : Type 0} (view : X → A) (meaning : Result A Fault) (r : Result X Error) → result_err r ≡ None → Gives view meaning r → (a : A) × (meaning ≡ Ok a)
given_answer view meaning (Ok x) none gives = (view x, gives)
given_answer view meaning (Err e) none gives = cc

-- there is one
pub given_fault : {A X : Type 0} (view : X → A) (meaning : Result A Fault) (r : Result X Error) (e : Error) → result_err r ≡ Some e → Gives view meaning r → IsFaultOf meaning e
given_fault view meaning (Ok x) e some gives = cc
given_fault view meaning (Err y) e some gives = (let same : y ≡ e = cc in subst (IsFaultOf meaning) same gives)

-- it is not that memory ran out
pub says_fault : {A : Type 0} (meaning : Result A Fault) (e : Error) → is_memory e ≡ false → IsFaultOf meaning e → (f : Fault) × (meaning ≡ Err f) × SaysFault e f
says_fault meaning (error.Unretrievable uri source) none is = is
says_fault meaning (error.PointerToNowhere pointer) none is = is
says_fault meaning (error.InvalidPercentEncoding pointer) none is = is
says_fault meaning (error.InvalidArrayIndex pointer index) none is = is
says_fault meaning (error.NoSuchAnchor anchor) none is = is
says_fault meaning (error.InvalidAnchor anchor) none is = is
says_fault meaning (error.InvalidUri uri) none is = is
says_fault meaning (error.UnknownSpecification specification) none is = is
says_fault meaning (error.CircularMetaschema uri) none is = is
says_fault meaning (error.RetrievalLimit uri limit) none is = is
says_fault meaning (error.Memory memory) none is = cc

-- it is
pub says_memory : (e : Error) → is_memory e ≡ true → IsMemory e
says_memory (error.Unretrievable uri source) is = cc
says_memory (error.PointerToNowhere pointer) is = cc
says_memory (error.InvalidPercentEncoding pointer) is = cc
says_memory (error.InvalidArrayIndex pointer index) is = cc
says_memory (error.NoSuchAnchor anchor) is = cc
says_memory (error.InvalidAnchor anchor) is = cc
says_memory (error.InvalidUri uri) is = cc
says_memory (error.UnknownSpecification specification) is = cc
says_memory (error.CircularMetaschema uri) is = cc
says_memory (error.RetrievalLimit uri limit) is = cc
says_memory (error.Memory memory) is = tt
