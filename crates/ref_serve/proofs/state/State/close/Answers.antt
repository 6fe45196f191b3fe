use Rattle.std.proofs.Common.{◌≤◌, ◌<◌, length, ap, ◌∙◌, rules}
use Rattle.ref_serve.specs.State.{without_registry}
use Rattle.ref_serve.proofs.Closing.{closed_past, closed_at}
use Rattle.ref_serve.proofs.state.State.close.Goals.{in-Some-1, in-None-1}
use Rattle.ref_serve.proofs.state.State.close.Goals as goal

pub returns-else-number-len : goal.returns-else-number-len
returns-else-number-len c =
    let past : length c.args.self.now ≤ c.args.number = search rules in
    record { closed = closed_past c.args.self.now c.args.number past }

pub returns-then-number-len : goal.returns-then-number-len
returns-then-number-len c =
    let slots = c.self.inside.slots.items in
    let n = c.args.number in
    let within : n < length slots = search rules in
    let all = closed_at slots n within ∙ ap (λ s. without_registry s n) c.self.view_is in
    record { closed = elim c.match-index_mut.branch [ in-Some-1 w ↦ w.self-is ∙ all | in-None-1 w ↦ w.self-is ∙ all ] }
