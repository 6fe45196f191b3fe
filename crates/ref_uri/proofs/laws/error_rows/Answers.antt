use Rattle.std.proofs.Common.{refl, codes}
use Rattle.ref_uri.specs.Targets.{parse_refusal}
use Rattle.ref_uri.proofs.laws.error_rows.Goals as goal

pub returns : goal.returns
returns c = record {
  rows = record {
    syntax = refl;
    no_scheme = refl;
    parse_fault_of_syntax = refl;
    parse_fault_of_memory = λ e. refl;
    base_without_scheme = refl;
    resolve_fault_of_base = refl;
    resolve_fault_of_memory = λ e. refl;
    reference = λ uri is. rw is refl;
    no_reference = λ uri is. rw is refl;
    unresolved_reference = λ uri base is at. rw (is, at) refl;
    fault_of_error = λ uri is. rw is refl;
    fault_of_memory = λ e. refl;
    says = λ uri is. (is, refl, refl);
    says_no_other = λ uri says. says;
    memory_in_any_case = λ e. tt;
    fault_of_a_refusal = λ uri is. (parse_refusal (codes "a b"), refl, (is, refl, refl));
  };
}
