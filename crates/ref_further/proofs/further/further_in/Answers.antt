use Rattle.std.proofs.Common.{map, subst}
use Rattle.std.proofs.lemmas.Result.{IfOk-weaker}
use Rattle.ref_reach.specs.Views.{place_of}
use Rattle.ref_reach.specs.Knowing.{known_of}
use Rattle.ref_bundle.specs.Saying.{further_of}
use Rattle.ref_further.specs.Further.{AreGrouped}
use Rattle.ref_further.proofs.further.further_in.Goals as goal

pub returns : goal.returns
returns c =
    let known = known_of c.args.documents.now in
    let described = map place_of c.in_ok-described.described.items in
    let led = map place_of c.in_ok-led.led.items in
    let (schemas, are_schemas, from_schemas) = c.in_ok-led.ensures in
    IfOk-weaker c.grouped.result _ _
    (λ groups given. record {
      described = described;
      from_descriptions = c.in_ok-described.ensures;
      schemas = schemas;
      are_schemas = are_schemas;
      led = led;
      from_schemas = from_schemas;
      grouped = subst (λ ps. AreGrouped known described (map place_of ps) (further_of groups.items)) c.as_slice-2.ensures.value
          (subst (λ ps. AreGrouped known (map place_of ps) (map place_of c.as_slice-2.result.now) (further_of groups.items)) c.as_slice.ensures.value given);
    })
    c.grouped.ensures
