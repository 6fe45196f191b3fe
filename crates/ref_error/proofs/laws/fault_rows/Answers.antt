use Rattle.std.proofs.Common.{◌≡◌, refl, sym, ap, ◌∙◌, codes, Ok, Err}
use Rattle.ref_uri.specs.Targets.{parse_refusal}
use Rattle.ref_definitions.specs.Fault as fault
use Rattle.ref_error.specs.declared.error.Reason.TheVariants.{NotFetched, NotSupported}
use Rattle.ref_error.specs.declared.error.RetrieveError.TheVariants as retrieve_error
use Rattle.ref_error.specs.declared.error.RetrieveError.TheVariants.{Refused}
use Rattle.ref_error.proofs.laws.fault_rows.Goals as goal

pub returns : goal.returns
returns c = record {
  rows = record {
    says = λ p is. is;
    says_no_other_text = λ p is says. let other : codes "/a" ≡ codes "" = sym is ∙ says in cc;
    says_no_other_kind = λ p is says. says;
    says_in_order = λ p i is at. (is, at);
    memory_says_none = λ e f says. says;
    source_of_memory_says_none = λ uri e wanted text says. says.1;
    memory_in_any_case = λ e. tt;
    no_fault_of_an_answer = λ p is. let e : Ok (codes "a") ≡ Err is.0 = is.1 in cc;
    fault_of_a_refusal = λ u is. (fault.InvalidUri (parse_refusal (codes "a b")), refl, (is, refl, refl));
    gives_the_answer = λ t is. sym (ap (λ x. Ok x) is);
    gives_no_other_answer = λ t is gives. let other : Ok (codes "") ≡ Ok (codes "a") = gives ∙ ap (λ x. Ok x) is in cc;
    gives_the_fault = λ p is. (fault.PointerToNowhere (codes "/a"), refl, is);
    gives_no_other_fault = λ p says. let other : fault.InvalidAnchor (codes "/a") ≡ says.0 = cc in rw (sym other) at says.2;
    for_its_reason = λ uri. refl;
    for_no_other_reason = λ uri is. let other : Refused NotFetched ≡ Refused NotSupported = is in cc;
    for_memory_no_reason = λ uri e is. let other : retrieve_error.Memory e ≡ Refused NotFetched = is in cc;
    without_a_source = λ u. tt;
    refused_with_its_text = refl;
    refused_with_no_other_text = λ is. let other : codes "no document under this URI" ≡ codes "" = is in cc;
    memory_refuses_nothing = λ e. tt;
    memory = λ e. tt;
    no_memory = λ p is. is;
    says_or_memory = λ e f. tt;
    says_another = λ p is says. let other : codes "/a" ≡ codes "" = sym is ∙ says in cc;
  };
}
