use Rattle.std.proofs.Common.{◌≡◌, false, sym, ◌∙◌}
use Rattle.ref_vocabularies.specs.Vocabularies.{has_uri}
use Rattle.ref_vocabularies.specs.Views.{AreInByteOrder}
use Rattle.ref_vocabularies.proofs.Sorted.{put-searched, searchable, missing, put-there, there-found, in_order-put}
use Rattle.ref_vocabularies.proofs.vocabulary_set.insert.Goals as goal

pub returns-in_err-insert-clause-there : goal.returns-in_err-insert-clause-there
returns-in_err-insert-clause-there c =
    let uris = c.as_slice.result.now in
    let sorted : AreInByteOrder uris = rw c.as_slice.ensures.value c.requires in
    let none : has_uri uris c.args.uri ≡ false = missing c.args.uri uris c.in-Err.place (c.in-Err.ensures.position (searchable c.args.uri uris sorted)) in
    λ there. absurd (cc)

pub returns-in_ok-insert-clause-added : goal.returns-in_ok-insert-clause-added
returns-in_ok-insert-clause-added c =
    let uris = c.as_slice.result.now in
    let sorted : AreInByteOrder uris = rw c.as_slice.ensures.value c.requires in
    let placed = put-searched c.args.uri uris c.in-Err.place c.in-Err.ensures.bound (c.in-Err.ensures.position (searchable c.args.uri uris sorted)) in
    c.in_ok-insert.ensures.items ∙ sym (rw c.as_slice.ensures.value at placed)

pub returns-in_ok-insert-clause-order : goal.returns-in_ok-insert-clause-order
returns-in_ok-insert-clause-order c = rw (returns-in_ok-insert-clause-added c) (in_order-put c.args.uri c.args.uris.now.items c.requires)

pub returns-in_default-clause-added : goal.returns-in_default-clause-added
returns-in_default-clause-added c =
    let uris = c.as_slice.result.now in
    let sorted : AreInByteOrder uris = rw c.as_slice.ensures.value c.requires in
    let there = there-found c.args.uri uris c.in_default.field-0 c.in_default.ensures.bound c.in_default.ensures.position in
    sym (rw c.as_slice.ensures.value at (put-there c.args.uri uris sorted there))
