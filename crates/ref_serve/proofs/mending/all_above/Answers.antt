use Rattle.std.proofs.Common.{◌≡◌, ◌∷◌, [], sym, ◌∙◌, subst, rules}
use Rattle.std.specs.Vec.Iter.{into_iter_items}
use Rattle.std.proofs.lemmas.List.{nil_from_length}
use Rattle.ref_findings.specs.Entries.{SaysFindings}
use Rattle.ref_serve.specs.Mending.{unmet_above}
use Rattle.ref_serve.specs.inner.Mended.{world_above}
use Rattle.ref_serve.proofs.Passing.{AreMade, one_made, all_made}
use Rattle.ref_serve.proofs.mending.all_above.Goals as goal

pub loop-list-preserved : goal.loop-list-preserved
loop-list-preserved c =
    let f = unmet_above (world_above c.args.above) in
    let rest = into_iter_items c.next.new.self in
    let list = c.in-Some.list in
    let done = c.loop-list.lists.items in
    let steps : into_iter_items c.loop-list.list-iterator ≡ list ∷ rest = c.in-Some.ensures.steps.0 in (
      λ fss says. subst (λ lists. AreMade f SaysFindings rest lists fss) (sym c.in_ok-push.ensures.items)
          (one_made f SaysFindings list rest done c.in_ok-list.list fss (subst (λ left. AreMade f SaysFindings left done fss) steps (c.loop-list.invariant.0 fss says)) c.in_ok-list.ensures),
      search rules,
    )

pub returns : goal.returns
returns c = λ fss says.
    let f = unmet_above (world_above c.args.above) in
    let done = c.loop-list.lists.items in
    let none : into_iter_items c.loop-list.list-iterator ≡ [] = nil_from_length (into_iter_items c.loop-list.list-iterator) (sym c.loop-list.invariant.1 ∙ c.in-None.ensures.steps.0) in
    all_made f SaysFindings done fss (subst (λ left. AreMade f SaysFindings left done fss) none (c.loop-list.invariant.0 fss says))
