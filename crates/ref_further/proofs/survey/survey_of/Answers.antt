use Rattle.std.proofs.Common.{◌≡◌, map, ap, subst, refl, length, ◌∙◌}
use Rattle.ref_definitions.specs.World.{local_documents}
use Rattle.ref_reach.specs.Places.{AreOwn}
use Rattle.ref_reach.specs.Held.{layer_held}
use Rattle.ref_reach.specs.Schemas.{AreSchemas}
use Rattle.ref_reach.specs.Views.{place_of, source_of as source_view}
use Rattle.ref_reach.specs.Knowing.{known_of}
use Rattle.ref_bundle.proofs.Running.{map_twice}
use Rattle.ref_further.specs.Further.{source_of, IsKnown, numbers_below}
use Rattle.ref_further.proofs.survey.survey_of.Goals as goal

pub returns : goal.returns
returns c =
    let layer = local_documents c.args.registry.now in
    let known = known_of c.in_ok-documents.documents in
    let sources = c.as_slice.result.now in
    let are : map source_view sources ≡ map source_of layer = ap (map source_view) c.as_slice.ensures.value ∙ c.in_ok-sources.ensures.value in
    let draft = c.draft_of-draft.ensures.value in
    let is_known : IsKnown layer known = record {
      uris = c.in_ok-documents.ensures.uris ∙ map_twice (λ s. s.uri) source_view sources ∙ ap (map (λ s. s.uri)) are;
      trees = c.in_ok-documents.ensures.trees ∙ map_twice (λ s. s.tree) source_view sources ∙ ap (map (λ s. s.tree)) are;
      own = subst (λ ss. AreOwn ss known.own) are c.in_ok-documents.ensures.own;
      parts = c.in_ok-documents.ensures.parts;
      held = c.in_ok-documents.ensures.layer ∙ ap (λ ss. layer_held c.draft_of-draft.result ss known.own) are ∙ ap (λ d. layer_held d (map source_of layer) known.own) draft;
    } in
    let (schemas, are_schemas, from_schemas) = c.in_ok-led.ensures in
    record {
      value = record {
        known = known;
        is_known = is_known;
        described = map place_of c.in_ok-described.described.items;
        from_descriptions = c.in_ok-described.ensures;
        schemas = schemas;
        are_schemas = subst (λ d. AreSchemas known d (numbers_below (length known.uris)) schemas) draft are_schemas;
        led = map place_of c.in_ok-led.led.items;
        from_schemas = from_schemas;
        all = refl;
      };
    }
