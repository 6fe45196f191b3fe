use Rattle.std.proofs.Common.{◌≡◌, map, ap, subst, ◌∙◌}
use Rattle.std.proofs.lemmas.Result.{IfOk-weaker}
use Rattle.ref_definitions.specs.World.{local_documents}
use Rattle.ref_reach.specs.Places.{AreOwn}
use Rattle.ref_reach.specs.Held.{layer_held}
use Rattle.ref_reach.specs.Views.{source_of as source_view}
use Rattle.ref_reach.specs.Knowing.{known_of}
use Rattle.ref_bundle.specs.Saying.{further_of}
use Rattle.ref_bundle.proofs.Running.{map_twice}
use Rattle.ref_further.specs.Further.{source_of, IsKnown, AreFurtherIn}
use Rattle.ref_further.proofs.further.further_places.Goals as goal

pub returns : goal.returns
returns c =
    let layer = local_documents c.args.registry.now in
    let known = known_of c.in_ok-documents.documents in
    let sources = c.as_slice.result.now in
    let are : map source_view sources ≡ map source_of layer = ap (map source_view) c.as_slice.ensures.value ∙ c.in_ok-sources.ensures.value in
    let draft = c.draft_of-draft.ensures.value in
    let is_known : IsKnown layer known = record {
      uris = c.in_ok-documents.ensures.uris ∙ map_twice (λ s. s.uri) source_view sources ∙ ap (map (λ s. s.uri)) are;
      trees = c.in_ok-documents.ensures.trees ∙ map_twice (λ s. s.tree) source_view sources ∙ ap (map (λ s. s.tree)) are;
      own = subst (λ ss. AreOwn ss known.own) are c.in_ok-documents.ensures.own;
      parts = c.in_ok-documents.ensures.parts;
      held = c.in_ok-documents.ensures.layer ∙ ap (λ ss. layer_held c.draft_of-draft.result ss known.own) are ∙ ap (λ d. layer_held d (map source_of layer) known.own) draft;
    } in
    record {
      value = IfOk-weaker c.further_in.result _ _
          (λ further given. record { known = known; is_known = is_known; are = subst (λ d. AreFurtherIn known d (further_of further.items)) draft given })
          c.further_in.ensures;
    }
