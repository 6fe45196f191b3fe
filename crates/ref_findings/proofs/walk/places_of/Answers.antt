use Rattle.std.proofs.Common.{◌≡◌, ◌∙◌, ◌∷◌, ◌++◌, [], ◌+◌, ◌<◌, ap, sym, subst, map, take, get_or, length, option_map, arith}
use Rattle.std.specs.List.{AllByRecursion}
use Rattle.std.proofs.lemmas.Option.{slice_get-get_or, slice_get-map}
use Rattle.std.proofs.lemmas.List.{length-map, map-append, take_all}
use Rattle.serde_json.specs.View.{view}
use Rattle.ref_definitions.specs.Places.{root}
use Rattle.ref_index.specs.Listed.{ChildrenAreAt}
use Rattle.ref_findings.specs.Places.{document, places_near}
use Rattle.ref_findings.specs.inner.Queue.{IsAt}
use Rattle.ref_findings.specs.inner.Seen.{place_of}
use Rattle.ref_findings.proofs.Noted.{all_visited}
use Rattle.ref_findings.proofs.Queues.{begins, goes_on, ends, left_in}
use Rattle.ref_findings.proofs.walk.places_of.Goals as goal

pub loop-head-init : goal.loop-head-init
loop-head-init c =
    let d = document c.args.draft c.args.uri.now (view c.args.value.now) in (
      begins d (map place_of c.push.new.places.items)
          (ap (map place_of) (c.in_ok-push.ensures ∙ ap (λ l. l ++ c.in_ok-root.root ∷ []) c.new-places.ensures.items) ∙ ap (λ p. p ∷ []) (c.in_ok-root.ensures ∙ ap (λ draft. root (record { uri = c.args.uri.now; tree = view c.args.value.now; draft = draft })) c.in_ok-draft.ensures.value)),
      tt,
    )

pub loop-head-smaller : goal.loop-head-smaller
loop-head-smaller c =
    let d = document c.args.draft c.args.uri.now (view c.args.value.now) in
    let queue = c.loop-head.places.items in
    let more : c.loop-head.head < length (places_near d) = left_in d (map place_of queue) c.loop-head.head (omega (arith, length-map queue place_of)) c.loop-head.invariant.0 in
    omega (arith, more)

pub loop-head-preserved : goal.loop-head-preserved
loop-head-preserved c =
    let d = document c.args.draft c.args.uri.now (view c.args.value.now) in
    let queue = c.loop-head.places.items in
    let head = c.loop-head.head in
    let within : head < length queue = omega arith in
    let p = get_or queue head c.in_ok-root.root in
    let here = slice_get-get_or queue head c.in_ok-root.root within in
    let next = c.in_ok-push_below.ensures.added p here in
    let grown : map place_of c.push_below.new.places.items ≡ map place_of queue ++ map place_of next.0 = ap (map place_of) next.1 ∙ map-append place_of queue next.0 in (
      subst (λ l. IsAt d l (head + 1)) (sym grown)
          (goes_on d (map place_of queue) (map place_of next.0) head (place_of p) (omega (arith, length-map queue place_of)) (slice_get-map place_of queue head ∙ ap (option_map place_of) here) next.2
          c.loop-head.invariant.0),
      all_visited ChildrenAreAt queue c.push_below.new.places.items next.0 head p within here next.1 c.loop-head.invariant.1 (c.in_ok-push_below.ensures.are_there p here),
    )

pub returns-clause-value : goal.returns-clause-value
returns-clause-value c =
    let d = document c.args.draft c.args.uri.now (view c.args.value.now) in
    let queue = c.loop-head.places.items in
    ap (map place_of) c.shrink_to_fit.ensures.items ∙ ends d (map place_of queue) c.loop-head.head (omega (arith, length-map queue place_of)) c.loop-head.invariant.0

pub returns-clause-are_there : goal.returns-clause-are_there
returns-clause-are_there c =
    let queue = c.loop-head.places.items in
    subst (λ l. AllByRecursion ChildrenAreAt (map place_of l)) (sym c.shrink_to_fit.ensures.items)
    (subst (λ l. AllByRecursion ChildrenAreAt (map place_of l)) (take_all c.loop-head.head queue (omega arith)) c.loop-head.invariant.1)
