use Rattle.std.proofs.Common.{map, sym, ap, subst}
use Rattle.ref_definitions.specs.Wants.{wants}
use Rattle.ref_index.specs.Document.{layer_of}
use Rattle.ref_index.specs.inner.Visits.{IsFound, held_of}
use Rattle.ref_index.proofs.walked.Walked.with_room.Goals as goal

pub invariant_of-result : goal.invariant_of-result
invariant_of-result c =
    let layer = layer_of c.self.inside.documents.items in
    let was = c.self.invariant in
    let found : IsFound layer c.reserve_times.new.self = record { held = c.in_ok-reserve_times.ensures.held layer (held_of layer (wants layer)) was.held; faultless = was.faultless; children = was.children } in
    subst (λ d. IsFound (layer_of d) c.reserve_times.new.self) (sym c.reserve.ensures.items) found
