use Rattle.std.proofs.Common.{◌≡◌, ◌∙◌, ap, sym, subst, List, ℕ, string_bytes}
use Rattle.ref_positions.proofs.Tokens.{takes_scalar, takes_key, takes_other, stops, none_of}
use Rattle.ref_yaml.specs.Values.{IsText}
use Rattle.ref_positions.proofs.walk.Walk.pass_text.Goals as goal

pub returns-then-not-event : goal.returns-then-not-event
returns-then-not-event c = record {
  takes = λ _. takes_scalar c.args.document.now.text.now c.args.places.now c.args.self.now c.pass_scalar.new.self c.args.number c.args.event.now c.requires.is_scalar c.if-not-event.true c.pass_scalar.ensures.passes;
  stops = λ no. absurd (cc);
}

pub returns-then-not-is_asked : goal.returns-then-not-is_asked
returns-then-not-is_asked c = record {
  takes = λ _. takes_other c.args.document.now.text.now c.args.places.now c.args.self.now c.pass_other_key.new.self c.args.number c.args.event.now c.requires.is_scalar c.if-not-event.false
      c.pass_other_key.ensures.level c.pass_other_key.ensures.outer c.pass_other_key.ensures.found c.pass_other_key.ensures.next (sym c.is_asked.ensures.value ∙ c.if-not-is_asked.true);
  stops = λ no. absurd (cc);
}

pub returns-in-Ok : goal.returns-in-Ok
returns-in-Ok c =
    let made : IsText c.args.document.now.text.now c.args.event.now (string_bytes c.in-Ok.key) = record { is_one = c.requires.is_scalar; plain = c.in-Ok.ensures.plain; single = c.in-Ok.ensures.single; double = c.in-Ok.ensures.double; literal = c.in-Ok.ensures.literal; folded = c.in-Ok.ensures.folded } in
    let is : IsText c.args.document.now.text.now c.args.event.now c.as_str.result.now = subst (λ (x : List ℕ). IsText c.args.document.now.text.now c.args.event.now x) (sym c.as_str.ensures.value) made in
    record {
      takes = λ _. takes_key c.args.document.now.text.now c.args.places.now c.args.self.now c.pass_key.new.self c.args.number c.args.event.now c.as_str.result.now c.requires.is_scalar c.if-not-event.false is c.pass_key.ensures.passes;
      stops = λ no. absurd (cc);
    }

pub returns-in-Err-At-clause-stops : goal.returns-in-Err-At-clause-stops
returns-in-Err-At-clause-stops c = λ same within.
    stops c.args.document.now.text.now c.args.places.now c.args.self.now c.args.event.now c.if-not-event.false (sym c.is_asked.ensures.value ∙ c.if-not-is_asked.false)
    (none_of c.args.document.now.text.now c.args.event.now _ _ _ c.in-Err-At.field-0-is c.in-Err-At.ensures.refused within)
