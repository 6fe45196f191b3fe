use Rattle.std.proofs.Common.{◌≡◌, ◌∷◌, [], false, sym, ◌∙◌, subst, rules}
use Rattle.std.specs.Vec.Iter.{into_iter_items}
use Rattle.std.proofs.lemmas.List.{nil_from_length}
use Rattle.ref_serve.specs.inner.Mended.{world_above}
use Rattle.ref_serve.proofs.Passing.{IsPassed, one_unmet, all_passed}
use Rattle.ref_serve.proofs.mending.unmet_above.Goals as goal

pub loop-finding-preserved-in_ok-push : goal.loop-finding-preserved-in_ok-push
loop-finding-preserved-in_ok-push c =
    let parents = world_above c.args.above in
    let rest = into_iter_items c.next.new.self in
    let finding = c.in-Some.finding in
    let done = c.loop-finding.list.items in
    let steps : into_iter_items c.loop-finding.finding-iterator ≡ finding ∷ rest = c.in-Some.ensures.steps.0 in
    let no : c.in_ok-is_in_parents.field-0 ≡ false = search rules in (
      λ fs says. subst (λ list. IsPassed parents rest list fs) (sym c.in_ok-push.ensures.items)
          (one_unmet parents finding rest done fs (subst (λ left. IsPassed parents left done fs) steps (c.loop-finding.invariant.0 fs says)) (λ g is. sym (c.in_ok-is_in_parents.ensures g is) ∙ no)),
      search rules,
    )

pub returns : goal.returns
returns c = λ fs says.
    let parents = world_above c.args.above in
    let done = c.loop-finding.list.items in
    let none : into_iter_items c.loop-finding.finding-iterator ≡ [] = nil_from_length (into_iter_items c.loop-finding.finding-iterator) (sym c.loop-finding.invariant.1 ∙ c.in-None.ensures.steps.0) in
    all_passed parents done fs (subst (λ left. IsPassed parents left done fs) none (c.loop-finding.invariant.0 fs says))
