-- What contracts see of the crate's types.
use Rattle.ref_graphs.specs.declared.circles.Step as rust_step
use Rattle.ref_graphs.specs.declared.circles.Circle as rust_circle
use Rattle.ref_graphs.specs.declared.rounds.Lead as rust_lead
use Rattle.ref_graphs.specs.declared.rounds.Round as rust_round
use Rattle.ref_graphs.specs.Circles.{Step}
use Rattle.ref_graphs.specs.Closing.{Circle}
use Rattle.ref_graphs.specs.Rounds.{Lead, Round}

-- a step
abbrev pub step_of : rust_step.Step → Step
step_of s = record { from = s.from; to = s.to }

-- a circle
abbrev pub circle_of : rust_circle.Circle → Circle
circle_of c = record { closing = c.closing; size = c.size; steps = c.steps.items }

-- a reference
abbrev pub lead_of : rust_lead.Lead → Lead
lead_of l = record { fronts = l.fronts.items; to = l.to }

-- a round
abbrev pub round_of : rust_round.Round → Round
round_of r = record { closing = r.closing; size = r.size; leads = r.leads.items }
