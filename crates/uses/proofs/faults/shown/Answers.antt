use Rattle.std.proofs.Common.{inl, inr, string_bytes, sym, subst}
use Rattle.referencing.specs.Answering.{answer_of}
use Rattle.uses.specs.Uses.{ShowsFailure}
use Rattle.uses.proofs.faults.shown.Goals as goal

pub returns-in-Ok : goal.returns-in-Ok
returns-in-Ok g c = record { text = inl (answer_of c.in-Ok.field-0, c.in-Ok.ensures.answer, c.in_ok-from_str-in-Ok.ensures.ok) }

pub returns-in-Err-Prepare : goal.returns-in-Err-Prepare
returns-in-Err-Prepare g c = record {
  text = inr (
    c.in-Err-Prepare.field-0,
    c.in-Err-Prepare.ensures.fault,
    subst (λ e. ShowsFailure e (string_bytes c.in_ok-format-in-Err-Prepare.field-0)) (sym c.in-Err-Prepare.field-0-is) c.in_ok-format-in-Err-Prepare.ensures.ok,
  );
}

pub returns-in-Err-Follow : goal.returns-in-Err-Follow
returns-in-Err-Follow g c = record {
  text = inr (
    c.in-Err-Follow.field-0,
    c.in-Err-Follow.ensures.fault,
    subst (λ e. ShowsFailure e (string_bytes c.in_ok-step_text-in-Err-Follow.field-0)) (sym c.in-Err-Follow.field-0-is) c.in_ok-step_text-in-Err-Follow.ensures.text,
  );
}
