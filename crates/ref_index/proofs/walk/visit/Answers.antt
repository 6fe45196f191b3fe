use Rattle.std.proofs.Common.{◌≡◌, ◌∙◌, Ok, Some, sym, ap, subst, option_map}
use Rattle.std.specs.Prelude.{slice_get}
use Rattle.std.proofs.lemmas.Option.{get_or_from_slice_get}
use Rattle.ref_definitions.specs.Places.{children_with}
use Rattle.ref_index.specs.Visit.{place_of}
use Rattle.ref_index.specs.inner.Visits.{IsVisited}
use Rattle.ref_index.proofs.walk.visit.Goals as goal

pub returns-clause-ok : goal.returns-clause-ok
returns-clause-ok c = λ v at.
    let w = c.index-place.result.now in
    let same : w ≡ v = c.index-place.ensures ∙ get_or_from_slice_get c.args.queue.now.items c.args.head v w at in
    let based : (place_of w).base ≡ Ok c.in_ok-base.base.value = c.in_ok-base.ensures.base in
    let pushed = c.in_ok-push_children.ensures w (subst (λ u. slice_get c.args.queue.now.items c.args.head ≡ Some u) (sym same) at) in
    let visited : IsVisited c.args.number (option_map (λ u. u.now.value) c.args.under) w c.args.found.now c.settle.new.found c.args.queue.now.items c.push_children.new.queue.items = record {
      added = c.in_ok-base.ensures.added;
      faultless = c.in_ok-base.ensures.faults;
      more = pushed.0.0;
      grown = pushed.0.1;
      children = pushed.0.2 ∙ ap (λ b. children_with b (place_of w)) (sym based);
      are_there = pushed.1;
    } in
    subst (λ u. IsVisited c.args.number (option_map (λ u. u.now.value) c.args.under) u c.args.found.now c.settle.new.found c.args.queue.now.items c.push_children.new.queue.items) same visited
