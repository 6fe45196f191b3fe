-- What errors say of references that are looked up, and of findings one after another.
use Rattle.std.proofs.Common.{◌≡◌, ℕ, List, true, false, Some, refl}
use Rattle.ref_definitions.specs.Fault as fault
use Rattle.ref_definitions.specs.Fault.{Fault}
use Rattle.ref_error.specs.declared.error.Error.{Error}
use Rattle.ref_error.specs.declared.error.Error.TheVariants as error
use Rattle.ref_error.specs.Errors.{SaysFault}
use Rattle.ref_findings.specs.Findings.{LeadsNowhere, missing_problem, by_fault}
use Rattle.ref_findings.specs.inner.Meanings.{is_unretrievable}

pub says_missing : (uri reference : List ℕ) (e : Error) (f : Fault) → is_unretrievable e ≡ true → SaysFault e f → by_fault uri reference f ≡ missing_problem uri reference
says_missing uri reference (error.Unretrievable wanted source) (fault.Unretrievable text why) is says = refl
says_missing uri reference (error.Unretrievable wanted source) (fault.PointerToNowhere pointer) is says = absurd says
says_missing uri reference (error.Unretrievable wanted source) (fault.InvalidPercentEncoding pointer) is says = absurd says
says_missing uri reference (error.Unretrievable wanted source) (fault.InvalidArrayIndex pointer index) is says = absurd says
says_missing uri reference (error.Unretrievable wanted source) (fault.NoSuchAnchor anchor) is says = absurd says
says_missing uri reference (error.Unretrievable wanted source) (fault.InvalidAnchor anchor) is says = absurd says
says_missing uri reference (error.Unretrievable wanted source) (fault.InvalidUri refusal) is says = absurd says
says_missing uri reference (error.Unretrievable wanted source) (fault.UnknownSpecification specification) is says = absurd says
says_missing uri reference (error.Unretrievable wanted source) (fault.CircularMetaschema at) is says = absurd says
says_missing uri reference (error.Unretrievable wanted source) (fault.RetrievalLimit at limit) is says = absurd says
says_missing uri reference (error.PointerToNowhere pointer) f is says = cc
says_missing uri reference (error.InvalidPercentEncoding pointer) f is says = cc
says_missing uri reference (error.InvalidArrayIndex pointer index) f is says = cc
says_missing uri reference (error.NoSuchAnchor anchor) f is says = cc
says_missing uri reference (error.InvalidAnchor anchor) f is says = cc
says_missing uri reference (error.InvalidUri refused) f is says = cc
says_missing uri reference (error.UnknownSpecification specification) f is says = cc
says_missing uri reference (error.CircularMetaschema at) f is says = cc
says_missing uri reference (error.RetrievalLimit at limit) f is says = cc
says_missing uri reference (error.Memory memory) f is says = cc

not_unretrievable : (e : Error) (wanted why : List ℕ) → is_unretrievable e ≡ false → ¬ (SaysFault e (fault.Unretrievable wanted why))
not_unretrievable (error.Unretrievable uri source) wanted why is says = cc
not_unretrievable (error.PointerToNowhere pointer) wanted why is says = says
not_unretrievable (error.InvalidPercentEncoding pointer) wanted why is says = says
not_unretrievable (error.InvalidArrayIndex pointer index) wanted why is says = says
not_unretrievable (error.NoSuchAnchor anchor) wanted why is says = says
not_unretrievable (error.InvalidAnchor anchor) wanted why is says = says
not_unretrievable (error.InvalidUri refused) wanted why is says = says
not_unretrievable (error.UnknownSpecification specification) wanted why is says = says
not_unretrievable (error.CircularMetaschema at) wanted why is says = says
not_unretrievable (error.RetrievalLimit at limit) wanted why is says = says
not_unretrievable (error.Memory memory) wanted why is says = says

pub says_nowhere : (uri reference : List ℕ) (e : Error) (f : Fault) → is_unretrievable e ≡ false → SaysFault e f → by_fault uri reference f ≡ Some (LeadsNowhere uri f)
says_nowhere uri reference e (fault.Unretrievable wanted why) is says = absurd (not_unretrievable e wanted why is says)
says_nowhere uri reference e (fault.PointerToNowhere pointer) is says = refl
says_nowhere uri reference e (fault.InvalidPercentEncoding pointer) is says = refl
says_nowhere uri reference e (fault.InvalidArrayIndex pointer index) is says = refl
says_nowhere uri reference e (fault.NoSuchAnchor anchor) is says = refl
says_nowhere uri reference e (fault.InvalidAnchor anchor) is says = refl
says_nowhere uri reference e (fault.InvalidUri refusal) is says = refl
says_nowhere uri reference e (fault.UnknownSpecification specification) is says = refl
says_nowhere uri reference e (fault.CircularMetaschema at) is says = refl
says_nowhere uri reference e (fault.RetrievalLimit at limit) is says = refl
