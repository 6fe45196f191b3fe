use Rattle.std.proofs.Common.{◌∙◌, ap}
use Rattle.ref_positions.proofs.Walks.{scalar_passes, scalar_skips}
use Rattle.ref_positions.proofs.walk.Walk.pass_scalar.Goals as goal

pub returns-in_default : goal.returns-in_default
returns-in_default c = record { passes = λ before ps lt w. scalar_skips c.args.places.now c.args.self.now c.args.number c.args.start (λ x e. c.in_default.not-Value x e) before ps w }

pub returns : goal.returns
returns c = record {
  passes = λ before ps lt w.
      scalar_passes c.args.places.now c.args.self.now c.leave.new.self c.args.number c.args.start c.in-Value.named c.number-place.result c.in-Value.is
      (λ p t a n. c.number-place.ensures.value p t a n) (ap (λ v. v.items) c.leave.ensures.found ∙ c.note_value.ensures.value)
      (λ p few lie. c.leave.ensures.coming c.args.places.now p c.args.number lt few lie) before ps w;
}
