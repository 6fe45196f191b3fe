use Rattle.std.proofs.Common.{◌≡◌, ℕ, List, None, Some, Ok, IfOk, IfErr, map, slice_get, ap, sym, subst, ◌∙◌, rules}
use Rattle.std.specs.List.{AllByRecursion}
use Rattle.ref_definitions.specs.World.{Layer, local_documents}
use Rattle.ref_bundle.proofs.Lists.{got}
use Rattle.ref_bundle.specs.Needed.{counted_documents}
use Rattle.ref_bundle.specs.Bundle.{bundle_among}
use Rattle.ref_bundle.specs.Saying.{further_of, IsRefusalOf}
use Rattle.ref_bundle.specs.Assembled.{assembled}
use Rattle.ref_bundle.specs.inner.Seen.{document_in, layer_in, numbered_document, HasPlaces}
use Rattle.ref_bundle.specs.declared.own.Own.{Own}
use Rattle.ref_bundle.proofs.Gathering.{document_at}
use Rattle.ref_bundle.proofs.Whole.{layer_is, number_at, not_bundled}
use Rattle.ref_bundle.proofs.bundling.bundle_parts.Goals as goal

-- the document that was got by a root's number is the one of that number, in the layer
root_is : (owns items lent : List Own) (layer : Layer) (n : ℕ) (top : Own) → owns ≡ items → lent ≡ items → map numbered_document items ≡ counted_documents 0 layer → slice_get lent n ≡ Some top
    → (slice_get owns top.number ≡ Some top) × (top.number ≡ n) × (layer_in owns ≡ layer)
root_is owns items lent layer n top same alike order at =
    let counted : map numbered_document owns ≡ counted_documents 0 layer = ap (map numbered_document) same ∙ order in
    let there : slice_get owns n ≡ Some top = ap (λ l. slice_get l n) (same ∙ sym alike) ∙ at in
    let number = number_at owns layer n top counted there in
    (ap (slice_get owns) number ∙ there, number, layer_is owns layer counted)

pub bundle_among-requires-clause-own : goal.bundle_among-requires-clause-own
bundle_among-requires-clause-own c =
    let layer = local_documents c.args.registry.now in
    let owns = c.as_slice.result.now in
    let lent : owns ≡ c.in_ok-owns.owns.items = c.as_slice.ensures.value in
    let order : map numbered_document owns ≡ counted_documents 0 layer = ap (map numbered_document) lent ∙ c.in_ok-owns.ensures.order in
    record {
      order = order ∙ ap (counted_documents 0) (sym (layer_is owns layer order));
      places = subst (AllByRecursion HasPlaces) (sym lent) c.in_ok-owns.ensures.places;
    }

pub bundle_among-requires-clause-top : goal.bundle_among-requires-clause-top
bundle_among-requires-clause-top c =
    let (there, number, layer) = root_is c.as_slice.result.now c.in_ok-owns.owns.items c.deref.result.now (local_documents c.args.registry.now) c.args.root c.in-Some.top.now c.as_slice.ensures.value c.deref.ensures.value c.in_ok-owns.ensures.order
    (sym (got c.deref.result.now c.args.root c.get.result c.get.ensures.lookup) ∙ search rules) in
    there

pub returns-in-Some-clause-value : goal.returns-in-Some-clause-value
returns-in-Some-clause-value c =
    let (there, number, layer) = root_is c.as_slice.result.now c.in_ok-owns.owns.items c.deref.result.now (local_documents c.args.registry.now) c.args.root c.in-Some.top.now c.as_slice.ensures.value c.deref.ensures.value c.in_ok-owns.ensures.order
    (sym (got c.deref.result.now c.args.root c.get.result c.get.ensures.lookup) ∙ search rules) in
    subst (λ k. IfOk c.bundle_among.result (λ b. bundle_among (local_documents c.args.registry.now) (further_of c.args.further.now) c.args.registry.now k ≡ Ok (assembled b))) number
    (subst (λ l. IfOk c.bundle_among.result (λ b. bundle_among l (further_of c.args.further.now) c.args.registry.now c.in-Some.top.now.number ≡ Ok (assembled b))) layer c.bundle_among.ensures.value)

pub returns-in-Some-clause-fault : goal.returns-in-Some-clause-fault
returns-in-Some-clause-fault c =
    let (there, number, layer) = root_is c.as_slice.result.now c.in_ok-owns.owns.items c.deref.result.now (local_documents c.args.registry.now) c.args.root c.in-Some.top.now c.as_slice.ensures.value c.deref.ensures.value c.in_ok-owns.ensures.order
    (sym (got c.deref.result.now c.args.root c.get.result c.get.ensures.lookup) ∙ search rules) in
    subst (λ k. IfErr c.bundle_among.result (IsRefusalOf (bundle_among (local_documents c.args.registry.now) (further_of c.args.further.now) c.args.registry.now k))) number
    (subst (λ l. IfErr c.bundle_among.result (IsRefusalOf (bundle_among l (further_of c.args.further.now) c.args.registry.now c.in-Some.top.now.number))) layer c.bundle_among.ensures.fault)

pub returns-clause-fault : goal.returns-clause-fault
returns-clause-fault c =
    let layer = local_documents c.args.registry.now in
    let owns = c.deref.result.now in
    let order : map numbered_document owns ≡ counted_documents 0 layer = ap (map numbered_document) c.deref.ensures.value ∙ c.in_ok-owns.ensures.order in
    let missing : slice_get owns c.args.root ≡ None = sym (got owns c.args.root c.get.result c.get.ensures.lookup) ∙ search rules in
    let at = document_at document_in owns layer c.args.root None (layer_is owns layer order) missing in
    not_bundled layer (further_of c.args.further.now) c.args.registry.now c.args.root at ∙ search rules
