use Rattle.std.proofs.Common.{sym, ap, subst, arith}
use Rattle.std.proofs.lemmas.List.Elements.{length_all_zip}
use Rattle.ref_parts.specs.FiniteMap.{IsClone}
use Rattle.ref_parts.specs.inner.Slots.{pairs, entries_of}
use Rattle.ref_parts.proofs.MapLaws.{slots_cloned, pairs_cloned, AllHold_cloned, EachOnce_cloned}
use Rattle.ref_parts.proofs.small_map.copied.Goals as goal

pub returns-in_ok-clone-in-Small-clause-clones : goal.returns-in_ok-clone-in-Small-clause-clones
returns-in_ok-clone-in-Small-clause-clones g c =
    let C = g.K.Clone.is_clone in
    let D = g.V.Clone.is_clone in
    let each = slots_cloned C D _ (λ f h. h) (λ e h. h) (λ e f h. h) c.in-Small.slots.items c.in_ok-clone-in-Small.field-0.items c.in_ok-clone-in-Small.ensures.cases in
    subst (λ es. IsClone C D es (pairs c.in_ok-clone-in-Small.field-0.items)) (sym (ap entries_of c.in-Small.is)) (pairs_cloned C D _ _ each)

pub returns-in_ok-clone-in-Small-clause-kept : goal.returns-in_ok-clone-in-Small-clause-kept
returns-in_ok-clone-in-Small-clause-kept g c =
    let C = g.K.Clone.is_clone in
    let D = g.V.Clone.is_clone in
    let each = slots_cloned C D _ (λ f h. h) (λ e h. h) (λ e f h. h) c.in-Small.slots.items c.in_ok-clone-in-Small.field-0.items c.in_ok-clone-in-Small.ensures.cases in
    λ form. let small = rw c.in-Small.is at form in (
      AllHold_cloned C D _ _ each small.0,
      omega (arith, length_all_zip _ _ _ each, small.1),
      EachOnce_cloned C D g.met.K.Eq.laws c.requires _ _ (pairs_cloned C D _ _ each) small.2,
    )

pub returns-in_ok-clone-in-Large-clause-clones : goal.returns-in_ok-clone-in-Large-clause-clones
returns-in_ok-clone-in-Large-clause-clones g c =
    subst (λ es. IsClone g.K.Clone.is_clone g.V.Clone.is_clone es c.in_ok-clone-in-Large.field-0.entries) (sym (ap entries_of c.in-Large.is)) c.in_ok-clone-in-Large.ensures.cases

pub returns-in_ok-clone-in-Large-clause-kept : goal.returns-in_ok-clone-in-Large-clause-kept
returns-in_ok-clone-in-Large-clause-kept g c =
    λ form. let long = rw c.in-Large.is at form in omega (arith, long, length_all_zip _ c.in-Large.map.entries c.in_ok-clone-in-Large.field-0.entries c.in_ok-clone-in-Large.ensures.cases)
