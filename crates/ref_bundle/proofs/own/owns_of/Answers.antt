use Rattle.std.specs.Prelude.{slice_get, MatchOption}
use Rattle.std.proofs.Common.{◌≡◌, ◌∷◌, ◌++◌, [], map, length, refl, sym, subst, ◌∙◌, rules}
use Rattle.std.specs.Vec.Iter.{into_iter_items}
use Rattle.std.proofs.lemmas.List.{nil_from_length}
use Rattle.ref_definitions.specs.World.{local_documents}
use Rattle.ref_bundle.specs.declared.own.Own.{Own}
use Rattle.ref_bundle.specs.inner.Seen.{numbered_document}
use Rattle.ref_bundle.proofs.Gathering.{IsPartly, Adds, items, partly_more, partly_all}
use Rattle.ref_bundle.proofs.own.owns_of.Goals as goal

pub loop-places-preserved : goal.loop-places-preserved
loop-places-preserved c =
    let layer = local_documents c.args.registry.now in
    let l = c.loop-places in
    let ps = c.in-Some.places in
    let rest = into_iter_items c.next.new.self in
    let steps : into_iter_items l.places-iterator ≡ ps ∷ rest = c.in-Some.ensures.steps.0 in
    let partly : IsPartly layer (items ps ∷ map items rest) l.owns.items = subst (λ gs. IsPartly layer (map items gs) l.owns.items) steps l.invariant.0 in
    let number : c.len-number.result ≡ length l.owns.items = search rules in
    let added : MatchOption (slice_get layer (length l.owns.items)) (c.push.new.owns.items ≡ l.owns.items) (Adds layer l.owns.items ps c.push.new.owns.items) =
    subst (λ n. MatchOption (slice_get layer n) (c.push.new.owns.items ≡ l.owns.items) (λ d. (o : Own) × (c.push.new.owns.items ≡ l.owns.items ++ o ∷ []) × (numbered_document o ≡ (n, d)) × (o.places ≡ ps))) number c.in_ok-push.ensures in
    (partly_more layer (items ps) (map items rest) l.owns.items c.push.new.owns.items ps partly added refl, search rules)

pub returns-clause-order : goal.returns-clause-order
returns-clause-order c =
    let layer = local_documents c.args.registry.now in
    let l = c.loop-places in
    let none : into_iter_items l.places-iterator ≡ [] = nil_from_length (into_iter_items l.places-iterator) (sym l.invariant.1 ∙ c.in-None.ensures.steps.0) in
    partly_all layer l.owns.items (subst (λ gs. IsPartly layer (map items gs) l.owns.items) none l.invariant.0)
