use Rattle.std.proofs.Common.{◌≡◌, ◌==◌, ◌&&◌, ℕ, Bool, List, not, None, Some, map, filter, option_map, refl, ap, sym, subst, ◌∙◌, rules}
use Rattle.std.specs.List.{AllByRecursion}
use Rattle.ref_definitions.specs.World.{Document}
use Rattle.ref_bundle.specs.Needed.{Further, counted_documents}
use Rattle.ref_bundle.specs.Bundle.{to_embed, bundle_of}
use Rattle.ref_bundle.specs.Saying.{refusal_said, further_of}
use Rattle.ref_bundle.specs.inner.Reach.{is_marked, AreMarked}
use Rattle.ref_bundle.specs.inner.Seen.{document_in, layer_in, numbered_document, part_document, numbered_part, HasBase}
use Rattle.ref_bundle.specs.declared.own.Own.{Own}
use Rattle.ref_bundle.specs.declared.embedding.Part.{Part}
use Rattle.ref_bundle.proofs.Gathering.{document_at}
use Rattle.ref_bundle.proofs.Running.{reached_are_needed}
use Rattle.ref_bundle.proofs.Whole.{parts_are, first_is, is_refused, is_bundle}
use Rattle.ref_bundle.proofs.bundling.bundle_needed.Goals as goal

pub first_refusal-requires : goal.first_refusal-requires
first_refusal-requires c =
    let layer = layer_in c.args.owns.now in
    let same : c.in_ok-top.top.number ≡ c.args.top.now.number = ap (λ (e : ℕ × Document). e.0) c.in_ok-top.ensures.value in
    record {
      order = c.requires.own.order;
      places = c.requires.own.places;
      tables = c.requires.tables;
      needed = subst (λ n. AreMarked layer (further_of c.args.further.now) n c.args.needed.now) (sym same) (reached_are_needed layer (further_of c.args.further.now) c.args.top.now.number c.args.needed.now c.requires.needed);
      root = c.in_ok-top.ensures.base;
      parts = subst (AllByRecursion HasBase) (sym c.as_slice-embedded.ensures.value) c.in_ok-parts.ensures.bases;
    }

-- the parts are the documents that have to be embedded
parts_to_embed : (owns : List Own) (fs : Further) (n : ℕ) (marks : List Bool) (slice parts : List Part) → AreMarked (layer_in owns) fs n marks → map numbered_document owns ≡ counted_documents 0 (layer_in owns) → slice ≡ parts
    → map numbered_part parts ≡ filter (λ e. not (e.0 == n) && is_marked marks e.0) (map numbered_document owns) → map numbered_part slice ≡ to_embed (layer_in owns) fs n
parts_to_embed owns fs n marks slice parts are order lent is =
    ap (map numbered_part) lent ∙ is ∙ ap (filter (λ e. not (e.0 == n) && is_marked marks e.0)) order ∙ parts_are (layer_in owns) fs n marks are

pub returns-in-Some-clause-fault : goal.returns-in-Some-clause-fault
returns-in-Some-clause-fault c =
    let owns = c.args.owns.now in
    let fs = further_of c.args.further.now in
    let n = c.args.top.now.number in
    let marks = c.args.needed.now in
    let are : AreMarked (layer_in owns) fs n marks = reached_are_needed (layer_in owns) fs n marks c.requires.needed in
    let embeds = parts_to_embed owns fs n marks c.as_slice-embedded.result.now c.in_ok-parts.parts.items are c.requires.own.order c.as_slice-embedded.ensures.value c.in_ok-parts.ensures.parts in
    let said : option_map refusal_said c.in_ok-refusal.field-0 ≡ Some (refusal_said c.in-Some.refusal) = search rules in
    is_refused (layer_in owns) fs c.args.bearers.now.registry.now n (document_in c.args.top.now) (refusal_said c.in-Some.refusal) (document_at document_in owns (layer_in owns) n (Some c.args.top.now) refl c.requires.top)
    (sym said ∙ first_is (layer_in owns) fs c.args.bearers.now.registry.now n (document_in c.args.top.now) marks (numbered_part c.in_ok-top.top) (map numbered_part c.as_slice-embedded.result.now) (map numbered_document owns) (option_map refusal_said c.in_ok-refusal.field-0) c.requires.own.order are c.in_ok-top.ensures.value embeds c.in_ok-refusal.ensures.value)

pub returns-clause-value : goal.returns-clause-value
returns-clause-value c =
    let layer = layer_in c.args.owns.now in
    let fs = further_of c.args.further.now in
    let own = c.args.top.now in
    let n = own.number in
    let marks = c.args.needed.now in
    let parts = c.in_ok-parts.parts.items in
    let are : AreMarked layer fs n marks = reached_are_needed layer fs n marks c.requires.needed in
    let lent = parts_to_embed c.args.owns.now fs n marks c.as_slice-embedded.result.now parts are c.requires.own.order c.as_slice-embedded.ensures.value c.in_ok-parts.ensures.parts in
    let embeds = parts_to_embed c.args.owns.now fs n marks parts parts are c.requires.own.order refl c.in_ok-parts.ensures.parts in
    let said : option_map refusal_said c.in_ok-refusal.field-0 ≡ None = search rules in
    let document = ap (λ (e : ℕ × Document). e.1) c.in_ok-top.ensures.value in
    is_bundle layer fs c.args.bearers.now.registry.now n (document_in own) (bundle_of (part_document c.in_ok-top.top) (map numbered_part parts)) (document_at document_in c.args.owns.now layer n (Some own) refl c.requires.top)
    (sym said ∙ first_is layer fs c.args.bearers.now.registry.now n (document_in own) marks (numbered_part c.in_ok-top.top) (map numbered_part c.as_slice-embedded.result.now) (map numbered_document c.args.owns.now) (option_map refusal_said c.in_ok-refusal.field-0) c.requires.own.order are c.in_ok-top.ensures.value lent c.in_ok-refusal.ensures.value)
    (ap (λ d. bundle_of d (map numbered_part parts)) document ∙ ap (bundle_of (document_in own)) embeds)
