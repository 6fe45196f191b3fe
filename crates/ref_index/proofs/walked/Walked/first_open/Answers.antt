use Rattle.std.proofs.Common.{◌≡◌, ◌∷◌, map, false, refl, subst}
use Rattle.ref_definitions.specs.Wants.{wants, is_open}
use Rattle.ref_index.specs.inner.Visits.{IsFound, held_of}
use Rattle.ref_index.proofs.Opening.{all_up_to}
use Rattle.ref_index.proofs.walked.Walked.first_open.Goals as goal

pub returns-clause-met : goal.returns-clause-met
returns-clause-met c = λ before.
    let layer = c.args.self.now in
    let found = subst (λ l. IsFound l c.self.inside.found) c.self.view_is c.self.invariant in
    let rest = c.first_open.ensures.met layer (held_of layer (wants layer)) found.held refl in
    all_up_to (λ w. is_open (layer ∷ map (λ p. p.now) c.args.parents.now) w ≡ false) c.args.from c.first_open.result (wants layer) c.first_open.ensures.from before rest

pub returns-clause-open : goal.returns-clause-open
returns-clause-open c = λ w here.
    let layer = c.args.self.now in
    let found = subst (λ l. IsFound l c.self.inside.found) c.self.view_is c.self.invariant in
    c.first_open.ensures.open layer (held_of layer (wants layer)) w found.held refl here
