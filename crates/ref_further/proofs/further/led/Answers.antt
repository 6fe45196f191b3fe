use Rattle.std.proofs.Common.{◌≡◌, ap, map, subst, ◌∙◌}
use Rattle.ref_reach.specs.Views.{place_of}
use Rattle.ref_reach.specs.Knowing.{known_of}
use Rattle.ref_reach.specs.Schemas.{AreSchemas}
use Rattle.ref_further.specs.Further.{numbers_below}
use Rattle.ref_further.proofs.further.led.Goals as goal

pub returns : goal.returns
returns c =
    let known = known_of c.args.documents.now in
    let schemas = map place_of c.in_ok-schemas.schemas.places.items in
    let numbers : c.as_slice.result.now ≡ numbers_below c.len.result = c.as_slice.ensures.value ∙ c.in_ok-numbers.ensures.value in (
      schemas,
      subst (λ ns. AreSchemas known c.args.draft ns schemas) (numbers ∙ ap numbers_below c.len.ensures.value) c.in_ok-schemas.ensures.places,
      c.in_ok-places.ensures.places,
    )
