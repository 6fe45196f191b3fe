use Rattle.std.proofs.Common.{◌≡◌}
use Rattle.ref_positions.specs.declared.format.Format.{Format}
use Rattle.ref_positions.specs.declared.format.Format.TheVariants.{Json, Yaml}
use Rattle.ref_positions.proofs.places.Places.locate.Goals as goal

other : (f : Format) → f ≡ Json → f ≡ Yaml → ⊥
other f h k = cc

pub returns-in_ok-found-in-Json-clause-yaml : goal.returns-in_ok-found-in-Json-clause-yaml
returns-in_ok-found-in-Json-clause-yaml c = λ is. absurd (other c.args.format c.in-Json.is is)

pub returns-in-Yaml-clause-json : goal.returns-in-Yaml-clause-json
returns-in-Yaml-clause-json c = λ is. absurd (other c.args.format is c.in-Yaml.is)
