use Rattle.std.proofs.Common.{◌≡◌, ◌∷◌, [], Some, refl, subst, sym, map, flat_map, take, rules, arith}
use Rattle.std.proofs.lemmas.List.{take_all}
use Rattle.ref_paths.specs.Path.{value_at}
use Rattle.ref_definitions.specs.Places.{Place, places, root}
use Rattle.ref_index.specs.Document.{document_of}
use Rattle.ref_index.specs.inner.Visits.{AddsPlaces}
use Rattle.ref_index.specs.Faults.{faults_of}
use Rattle.ref_index.specs.Visit.{place_of}
use Rattle.ref_index.proofs.Noting.{memory_alone, noted_faultless, noted_are_there, all_at, taken_more, all_walked}
use Rattle.ref_index.proofs.Walking.{adds_root, adds_more}
use Rattle.ref_index.proofs.listed.note.Goals as goal

pub returns-in_err-note_root : goal.returns-in_err-note_root
returns-in_err-note_root c =
    let d = document_of c.args.document.now in
    let none : faults_of (root d) ≡ [] = (noted_faultless d (map place_of c.args.below.now) c.requires).0 in
    let fault = memory_alone _ (flat_map faults_of (places d)) c.in_err-note_root.field-0.0 none c.in_err-note_root.ensures.faults in
    search rules

pub loop-place-init : goal.loop-place-init
loop-place-init c =
    let d = document_of c.args.document.now in
    adds_root d c.args.number c.args.found.now c.note_root.new.found (root d) refl c.in_ok-note_root.ensures.added

pub returns-in_err-settle : goal.returns-in_err-settle
returns-in_err-settle c =
    let d = document_of c.args.document.now in
    let below = map place_of c.args.below.now in
    let none = all_at (λ p. faults_of p ≡ []) place_of c.args.below.now c.loop-place.place-index c.place-item.result (noted_faultless d below c.requires).1 c.loop-place-test.true c.place-item.is in
    let fault = memory_alone _ (flat_map faults_of (places d)) c.in_err-settle.field-0.0 none c.in_err-settle.ensures.faults in
    search rules

pub loop-place-preserved : goal.loop-place-preserved
loop-place-preserved c =
    let d = document_of c.args.document.now in
    let vs = c.args.below.now in
    let i = c.loop-place.place-index in
    let v = c.place-item.result in
    let at = all_at (λ (p : Place). value_at d.tree p.path ≡ Some p.value) place_of vs i v (noted_are_there d (map place_of vs) c.requires).1 c.loop-place-test.true c.place-item.is in
    subst (λ l. AddsPlaces d c.args.number (root d ∷ l) c.args.found.now c.settle.new.found) (sym (taken_more vs i v c.loop-place-test.true c.place-item.is))
    (adds_more d c.args.number c.args.found.now c.loop-place.found c.settle.new.found (root d ∷ map place_of (take i vs)) (place_of v) at c.loop-place.invariant c.in_ok-settle.ensures.added)

pub returns : goal.returns
returns c =
    let d = document_of c.args.document.now in
    let vs = c.args.below.now in
    let all : take c.loop-place.place-index vs ≡ vs = take_all c.loop-place.place-index vs (omega arith) in
    all_walked d c.args.number c.args.found.now c.loop-place.found (map place_of vs) c.requires
    (subst (λ l. AddsPlaces d c.args.number (root d ∷ map place_of l) c.args.found.now c.loop-place.found) all c.loop-place.invariant)
