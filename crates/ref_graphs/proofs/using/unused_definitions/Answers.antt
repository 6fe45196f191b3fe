use Rattle.std.proofs.Common.{◌≡◌, ◌∙◌, ◌+◌, ◌++◌, ◌<◌, ◌↔◌, ℕ, List, true, false, length, map, get_or, ap, refl, subst, arith}
use Rattle.std.specs.Prelude.{filter, not}
use Rattle.ref_graphs.specs.Circles.{Step}
use Rattle.ref_graphs.specs.Reaching.{IsReached}
use Rattle.ref_graphs.specs.Views.{step_of}
use Rattle.ref_graphs.specs.inner.Using.{outward}
use Rattle.ref_graphs.specs.Using.{numbers, AreUnused}
use Rattle.ref_graphs.proofs.Used.{ok_then, reached_is_used, used_is_flagged}
use Rattle.ref_graphs.proofs.using.unused_definitions.Goals as goal

pub returns : goal.returns
returns c =
    let around = c.args.around.now in
    let uses = map step_of c.args.uses.now in
    let count = length around + 1 in
    let flags = c.in_ok-flags.flags.items in
    let steps : map step_of c.in_ok-steps.steps.items ≡ uses ++ outward around = c.in_ok-steps.ensures in
    let sliced : map step_of c.as_slice.result.now ≡ uses ++ outward around = ap (map step_of) c.as_slice.ensures.value ∙ steps in
    let are = λ (p : ℕ) (within : p < count). subst (λ (S : List Step). (get_or flags p false ≡ true) ↔ IsReached count S p) sliced (c.in_ok-flags.ensures.value p within) in
    let places : length flags ≡ count = omega (arith, c.in_ok-flags.ensures.places) in
    record {
      value = ok_then c.without_flag.result (λ list. list.items ≡ filter (λ d. not (get_or c.as_slice-2.result.now d false)) (numbers around)) (λ list. AreUnused around uses list.items) c.without_flag.ensures (λ list is. (
        flags,
        λ d within. (λ flag. reached_is_used around uses count d refl ((are d (omega (arith, within))).0 flag), used_is_flagged around uses count flags d refl places are),
        is ∙ ap (λ f. filter (λ d. not (get_or f d false)) (numbers around)) c.as_slice-2.ensures.value,
      ));
    }
