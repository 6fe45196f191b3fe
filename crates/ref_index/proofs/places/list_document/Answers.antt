use Rattle.std.proofs.Common.{◌∙◌, ◌∷◌, ◌++◌, [], ◌<◌, ap, map, length, arith}
use Rattle.ref_index.specs.Document.{document_of}
use Rattle.ref_index.specs.Listing.{listed_of}
use Rattle.ref_index.specs.Visit.{place_of}
use Rattle.ref_index.proofs.Walking.{element_there, left_in}
use Rattle.ref_index.proofs.Listing.{at_head, listing_begins, listing_goes_on, listing_ends}
use Rattle.ref_index.proofs.places.list_document.Goals as goal

pub loop-head-init : goal.loop-head-init
loop-head-init c =
    let v = c.in_ok-root.root in
    let one = c.in_ok-push_visit.ensures ∙ ap (λ l. l ++ v ∷ []) c.new-queue.ensures.items in
    listing_begins (document_of c.args.document.now) c.args.number (map listed_of c.args.list.now.items) c.push_visit.new.queue.items v one c.in_ok-root.ensures

pub list_next-requires : goal.list_next-requires
list_next-requires c =
    let queue = c.loop-head.queue.items in
    let within : c.loop-head.head < length queue = omega arith in
    let (v, here) = element_there queue c.loop-head.head within in
    let base = c.requires (place_of v) (at_head (document_of c.args.document.now) queue c.loop-head.head v within here c.loop-head.invariant.order) in (
      v,
      base.0,
      here,
      base.1,
    )

pub loop-head-smaller : goal.loop-head-smaller
loop-head-smaller c = omega (arith, left_in (document_of c.args.document.now) c.loop-head.queue.items c.loop-head.head (omega arith) c.loop-head.invariant.order)

pub loop-head-preserved : goal.loop-head-preserved
loop-head-preserved c =
    let queue = c.loop-head.queue.items in
    let within : c.loop-head.head < length queue = omega arith in
    let (v, here) = element_there queue c.loop-head.head within in
    let next = c.in_ok-list_next.ensures v here in
    listing_goes_on (document_of c.args.document.now) c.args.number (map listed_of c.args.list.now.items) (map listed_of c.loop-head.list.items) (map listed_of c.list_next.new.places.items)
    queue c.list_next.new.queue.items next.1.0 c.loop-head.head v within here c.loop-head.invariant next.0 next.1.1 next.1.2

pub returns : goal.returns
returns c =
    listing_ends (document_of c.args.document.now) c.args.number (map listed_of c.args.list.now.items) (map listed_of c.loop-head.list.items) c.loop-head.queue.items c.loop-head.head
    (omega arith) c.loop-head.invariant
