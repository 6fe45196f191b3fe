use Rattle.std.proofs.Common.{◌≡◌, refl, ◌<◌, ◌+◌, [], List, ℕ, Vec, Global, Some, slice_get, map, length, ap, sym, subst, ◌∙◌, arith, rules}
use Rattle.std.proofs.lemmas.Option.{slice_get_read}
use Rattle.ref_bundle.specs.inner.Reach.{state, added_document, all_added, list_at, IsRun}
use Rattle.ref_bundle.proofs.Running.{run_begins, run_goes_on, run_within, lists_length}
use Rattle.ref_bundle.proofs.reach.reach.Goals as goal

pub loop-head-init : goal.loop-head-init
loop-head-init c =
    let items : Vec ℕ Global → List ℕ = λ n. n.items in
    let lists = map items c.args.lists.now in
    let root = c.args.root in
    let marks = c.in_ok-reached.reached.marks.items in
    let long : length marks ≡ length lists = c.in_ok-reached.ensures.long ∙ sym (lists_length items c.args.lists.now) in
    let is : state c.add.new.self ≡ added_document (record { marks = marks; queue = [] }) root =
    c.in_ok-add.ensures ∙ ap (λ q. added_document (record { marks = marks; queue = q }) root) c.in_ok-reached.ensures.empty in
    subst (IsRun lists root 0) (sym is) (run_begins lists root marks long c.in_ok-reached.ensures.none)

pub loop-head-smaller : goal.loop-head-smaller
loop-head-smaller c =
    let items : Vec ℕ Global → List ℕ = λ n. n.items in
    let l = c.loop-head in
    let most = run_within (map items c.args.lists.now) c.args.root l.head (state l.reached) l.invariant in
    let long = lists_length items c.args.lists.now in
    let test : l.head < length l.reached.queue.items = search rules in
    omega (arith, most, long, test)

pub loop-head-preserved : goal.loop-head-preserved
loop-head-preserved c =
    let lists : List (List ℕ) = map (λ n. n.items) c.args.lists.now in
    let l = c.loop-head in
    let n : ℕ = c.index-number.result.now in
    let test : l.head < length l.reached.queue.items = search rules in
    let at : slice_get l.reached.queue.items l.head ≡ Some n = slice_get_read l.reached.queue.items (length l.reached.queue.items) l.head n refl test (search rules) in
    let is : state c.follow.new.self ≡ all_added (state l.reached) (list_at lists n) = c.in_ok-follow.ensures in
    subst (λ s. IsRun lists c.args.root (l.head + 1) s) (sym is) (run_goes_on lists c.args.root l.head n (state l.reached) l.invariant at)
