use Rattle.std.proofs.Common.{◌≡◌, ◌∙◌, refl, ◌∷◌, ◌+◌, ap, sym, map, drop, Some, None, option_map, rules}
use Rattle.std.proofs.lemmas.List.{at_drop_more, at_drop_all}
use Rattle.serde_json.specs.View.{view}
use Rattle.ref_paths.specs.Path.{value_at}
use Rattle.ref_paths.specs.Segment.{part_of}
use Rattle.ref_parts.proofs.SegmentLaws.{stepped}
use Rattle.ref_parts.proofs.segments.value_at.Goals as goal

pub returns-in_err-here : goal.returns-in_err-here
returns-in_err-here c =
    let d = view c.loop-part.here.now in
    let path = c.args.path.now in
    let i = c.loop-part.part-index in
    let item = c.part-item.result in
    let none : option_map (λ v. view v.now) c.child_at.result ≡ None = rw c.in_err-here.was refl in
    let ended : value_at d (part_of item ∷ map part_of (drop (i + 1) path)) ≡ None = stepped d (part_of item) (map part_of (drop (i + 1) path)) None (sym none ∙ c.child_at.ensures) in
    let at : value_at d (map part_of (drop i path)) ≡ value_at d (part_of item ∷ map part_of (drop (i + 1) path)) =
    at_drop_more (λ ps. value_at d (map part_of ps)) path i item c.loop-part-test.true ∙ ap (λ q. value_at d (part_of q ∷ map part_of (drop (i + 1) path))) (sym c.part-item.is) in
    let kept : value_at d (map part_of (drop i path)) ≡ value_at (view c.args.value.now) (map part_of path) = c.loop-part.invariant in
    let result : option_map (λ v. view v.now) c.from_residual.result ≡ None = search rules in
    record { value = result ∙ sym ended ∙ sym at ∙ kept }

pub loop-part-preserved : goal.loop-part-preserved
loop-part-preserved c =
    let d = view c.loop-part.here.now in
    let path = c.args.path.now in
    let i = c.loop-part.part-index in
    let item = c.part-item.result in
    let some : option_map (λ v. view v.now) c.child_at.result ≡ Some (view c.in_ok-here.here.now) = rw c.in_ok-here.was refl in
    let on : value_at d (part_of item ∷ map part_of (drop (i + 1) path)) ≡ value_at (view c.in_ok-here.here.now) (map part_of (drop (i + 1) path)) =
    stepped d (part_of item) (map part_of (drop (i + 1) path)) (Some (view c.in_ok-here.here.now)) (sym some ∙ c.child_at.ensures) in
    let at : value_at d (map part_of (drop i path)) ≡ value_at d (part_of item ∷ map part_of (drop (i + 1) path)) =
    at_drop_more (λ ps. value_at d (map part_of ps)) path i item c.loop-part-test.true ∙ ap (λ q. value_at d (part_of q ∷ map part_of (drop (i + 1) path))) (sym c.part-item.is) in
    let kept : value_at d (map part_of (drop i path)) ≡ value_at (view c.args.value.now) (map part_of path) = c.loop-part.invariant in
    sym on ∙ (sym at ∙ kept)

pub returns : goal.returns
returns c =
    let kept : value_at (view c.loop-part.here.now) (map part_of (drop c.loop-part.part-index c.args.path.now)) ≡ value_at (view c.args.value.now) (map part_of c.args.path.now) = c.loop-part.invariant in
    record { value = sym (at_drop_all (λ ps. value_at (view c.loop-part.here.now) (map part_of ps)) c.args.path.now c.loop-part.part-index c.loop-part-test.false) ∙ kept }
