use Rattle.std.proofs.Common.{◌≡◌, ◌++◌, map, filter, take}
use Rattle.ref_rules.specs.declared.slip.Problem.TheVariants.{OfAnotherDraft}
use Rattle.ref_rules.specs.Slips.{each}
use Rattle.ref_rules.specs.Views.{place_of, slip_of}
use Rattle.ref_rules.specs.inner.Adding.{is_other_there}
use Rattle.ref_rules.proofs.list.push_others.Given as goal

abbrev pub invariant-loop-keyword : goal.invariant-loop-keyword
invariant-loop-keyword l =
    map slip_of l.list.items
    ≡ map slip_of l.initial.list.items ++ each l.number (OfAnotherDraft l.place.draft) (filter (is_other_there (place_of l.place).value) (map (λ k. k.now) (take l.keyword-index l.keywords)))
