use Rattle.std.proofs.Common.{◌≡◌, drop}
use Rattle.ref_yaml.specs.Events.{are_apart}
use Rattle.ref_yaml.proofs.event.are_in_order.Given as goal

abbrev pub invariant-loop-event : goal.invariant-loop-event
invariant-loop-event l = are_apart l.last (drop l.event-index l.events) ≡ are_apart 0 l.events
