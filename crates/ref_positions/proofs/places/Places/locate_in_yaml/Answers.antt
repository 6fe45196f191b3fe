use Rattle.std.proofs.Common.{inl, inr, subst, List, ℕ}
use Rattle.ref_positions.specs.Events.{AreFoundIn}
use Rattle.ref_positions.proofs.places.Places.locate_in_yaml.Goals as goal

pub returns-in-Some-clause-found : goal.returns-in-Some-clause-found
returns-in-Some-clause-found c = inr (
  c.in-Ok.document,
  c.in-Ok.ensures.text,
  subst (λ (t : List ℕ). AreFoundIn t c.args.self.now c.in-Ok.document.events.items c.in-Some.located.found.items) c.in-Ok.ensures.text (rw c.in-Some.is at c.in_ok-located-in-Ok.ensures.found),
)
