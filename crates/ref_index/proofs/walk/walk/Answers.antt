use Rattle.std.proofs.Common.{◌≡◌, ◌∙◌, ◌∷◌, [], ◌<◌, ap, subst, length, Some, flat_map, arith, rules}
use Rattle.std.proofs.lemmas.Option.{get_or_from_slice_get}
use Rattle.ref_definitions.specs.Places.{root, children_of, levels_below}
use Rattle.ref_definitions.specs.Queue.{IsQueueBy}
use Rattle.serde_json.specs.Data.{depth}
use Rattle.ref_index.specs.Document.{document_of}
use Rattle.ref_index.specs.Visit.{place_of}
use Rattle.ref_index.specs.Faults.{IsFirstFault, faults_of}
use Rattle.ref_index.specs.inner.Visits.{IsVisited}
use Rattle.ref_index.proofs.Walking.{begin, advance, finish, element_there, first_there, left_in, first_in_front, first_of_visit, head_is}
use Rattle.ref_index.proofs.walk.walk.Goals as goal

pub returns-in_err-visit : goal.returns-in_err-visit
returns-in_err-visit c =
    let d = document_of c.args.document.now in
    let v = c.in_ok-root_of.field-0 in
    let is = c.in_ok-root_of.ensures in
    let here = first_there c.push_visit.new.queue.items c.in_ok-queue.queue.items v c.in_ok-push_visit.ensures c.in_ok-queue.ensures.items in
    let first : IsFirstFault (faults_of (root d)) c.in_err-visit.field-0.0 = subst (λ p. IsFirstFault (faults_of p) c.in_err-visit.field-0.0) is (c.in_err-visit.ensures.fault v here.1) in
    let fault = first_in_front (faults_of (root d)) (flat_map faults_of (levels_below (depth d.tree) (root d ∷ []))) c.in_err-visit.field-0.0 first in
    search rules

pub loop-head-init : goal.loop-head-init
loop-head-init c =
    let d = document_of c.args.document.now in
    let v = c.in_ok-root_of.field-0 in
    let is = c.in_ok-root_of.ensures in
    let here = first_there c.push_visit.new.queue.items c.in_ok-queue.queue.items v c.in_ok-push_visit.ensures c.in_ok-queue.ensures.items in
    let under : c.in_ok-uri.uri.value ≡ d.uri = c.in_ok-uri.ensures.cases ∙ ap (λ w. w.outer.value) (c.index.ensures ∙ get_or_from_slice_get c.push_visit.new.queue.items 0 v c.index.result.now here.1) ∙ ap (λ p. p.outer) is in
    begin d c.args.number c.args.found.now c.visit.new.found c.push_visit.new.queue.items c.visit.new.queue.items v here.0 is
    (subst (λ u. IsVisited c.args.number (Some u) v c.args.found.now c.visit.new.found c.push_visit.new.queue.items c.visit.new.queue.items) under (c.in_ok-visit.ensures.ok v here.1))

pub returns-in_err-visit-2 : goal.returns-in_err-visit-2
returns-in_err-visit-2 c =
    let queue = c.loop-head.queue.items in
    let within : c.loop-head.head < length queue = omega arith in
    let (v, here) = element_there queue c.loop-head.head within in
    let is = c.loop-head.invariant in
    let fault = first_of_visit (document_of c.args.document.now) _ _ (place_of v) c.in_err-visit-2.field-0.0 (subst (IsQueueBy children_of (document_of c.args.document.now) _) (head_is queue c.loop-head.head v within here) is.order) is.walk.faultless (c.in_err-visit-2.ensures.fault v here) in
    search rules

pub loop-head-smaller : goal.loop-head-smaller
loop-head-smaller c = omega (arith, left_in (document_of c.args.document.now) c.loop-head.queue.items c.loop-head.head (omega arith) c.loop-head.invariant.order)

pub loop-head-preserved : goal.loop-head-preserved
loop-head-preserved c =
    let within : c.loop-head.head < length c.loop-head.queue.items = omega arith in
    let (v, here) = element_there c.loop-head.queue.items c.loop-head.head within in
    advance (document_of c.args.document.now) c.args.number c.args.found.now c.loop-head.found c.visit-in-loop-head.new.found c.loop-head.queue.items c.visit-in-loop-head.new.queue.items c.loop-head.head v within here c.loop-head.invariant (c.in_ok-visit-2.ensures.ok v here)

pub returns : goal.returns
returns c = record { walked = finish (document_of c.args.document.now) c.args.number c.args.found.now c.loop-head.found c.loop-head.queue.items c.loop-head.head (omega arith) c.loop-head.invariant }
