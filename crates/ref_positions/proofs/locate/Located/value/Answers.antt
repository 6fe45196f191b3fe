use Rattle.std.proofs.Common.{◌≡◌, Some, get_or, ap, sym, ◌∙◌, List}
use Rattle.ref_positions.specs.Walks.{not_found}
use Rattle.ref_positions.specs.declared.walk.Found.{Found}
use Rattle.ref_positions.proofs.Spots.{spot_at}
use Rattle.ref_positions.proofs.locate.Located.value.Goals as goal

pub returns : goal.returns
returns c =
    let there : c.found_at.result ≡ get_or c.args.self.now.found.items c.args.place not_found = rw c.as_slice.ensures.value at c.found_at.ensures in
    let is : c.found_at.result.value ≡ Some (c.in_ok-start.field-0-0, c.in_ok-start.start) = cc (c.in_ok-start.was) in
    record { spot = spot_at _ (get_or c.args.self.now.found.items c.args.place not_found).value (c.in_ok-start.field-0-0, c.in_ok-start.start) c.position.result (sym (ap (λ (f : Found). f.value) there) ∙ is) c.position.ensures.text c.position.ensures.offset }
