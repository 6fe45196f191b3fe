use Rattle.std.proofs.Common.{refl}
use Rattle.ref_positions.proofs.Walks.{key_passes, key_skips}
use Rattle.ref_positions.proofs.walk.Walk.pass_key.Goals as goal

pub returns-in_default : goal.returns-in_default
returns-in_default c = record { passes = λ before ps lt w. key_skips c.args.places.now c.args.self.now c.args.number c.args.start c.args.text.now (λ e. c.in_default.not-Key e) before ps w }

pub returns : goal.returns
returns c = record {
  passes = λ before ps lt w.
      key_passes c.args.places.now c.args.self.now _ c.args.number c.args.start c.args.text.now c.find-place.result c.in-Key.is refl refl refl c.note_key.ensures.value before ps
      (λ p is tree lie. c.find-place.ensures.value p tree lie) w;
}
