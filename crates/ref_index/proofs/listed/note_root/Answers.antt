use Rattle.std.proofs.Common.{◌≡◌, Some, ap, subst}
use Rattle.ref_index.specs.Document.{document_of}
use Rattle.ref_index.specs.Visit.{place_of}
use Rattle.ref_index.specs.inner.Visits.{AddsPlace}
use Rattle.ref_index.proofs.listed.note_root.Goals as goal

pub returns-clause-added : goal.returns-clause-added
returns-clause-added c =
    let d = document_of c.args.document.now in
    let v = c.in_ok-root.root in
    let under : v.outer.value ≡ d.uri = ap (λ p. p.outer) c.in_ok-root.ensures in
    subst (λ p. AddsPlace c.args.number (Some d.uri) p c.args.found.now c.settle-base.new.found) c.in_ok-root.ensures
    (subst (λ u. AddsPlace c.args.number (Some u) (place_of v) c.args.found.now c.settle-base.new.found) under c.in_ok-base.ensures.added)
