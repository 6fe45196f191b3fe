use Rattle.std.proofs.Common.{◌∙◌, ap, refl}
use Rattle.ref_positions.proofs.Walks.{object_passes, object_skips}
use Rattle.ref_positions.proofs.walk.Walk.pass_object.Goals as goal

pub returns-in_default : goal.returns-in_default
returns-in_default c = record { passes = λ before ps lt w. object_skips c.args.places.now c.args.self.now c.args.number c.args.start (λ x e. c.in_default.not-Value x e) before ps w }

pub returns : goal.returns
returns c = record {
  passes = λ before ps lt w.
      object_passes c.args.places.now c.args.self.now _ c.args.number c.args.start c.in-Value.named c.number-place.result c.in-Value.is
      (λ p t a n. c.number-place.ensures.value p t a n) (ap (λ v. v.items) c.enter.ensures.found ∙ c.note_value.ensures.value) refl
      (λ p s is step lie. c.in_ok-enter.ensures.open c.args.places.now p s is step lie) before ps w;
}
