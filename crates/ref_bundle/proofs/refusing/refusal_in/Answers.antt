use Rattle.std.proofs.Common.{◌≡◌, ◌++◌, IfOk, map, option_map, sym, subst}
use Rattle.ref_bundle.specs.Bundle.{place_refusals, further_refusals}
use Rattle.ref_bundle.specs.Saying.{further_of, refusal_said}
use Rattle.ref_bundle.specs.inner.Seen.{layer_in, numbered_document, numbered_part}
use Rattle.ref_bundle.specs.inner.First.{first, whole_refusals}
use Rattle.ref_bundle.proofs.Firsts.{passed_on}
use Rattle.ref_bundle.proofs.refusing.refusal_in.Goals as goal

pub returns : goal.returns
returns c =
    let own = numbered_document c.args.own.now in
    let layer = layer_in c.args.among.now.owns.now in
    let fs = further_of c.args.among.now.further.now in
    let world = c.args.among.now.bearers.now.registry.now in
    let top = numbered_part c.args.among.now.top.now in
    let whole = whole_refusals top (map numbered_part c.args.among.now.parts.now) own in
    let places = place_refusals layer fs world top own in
    let more = further_refusals layer fs world top own.0 in
    let both = subst (λ o. IfOk o (λ r. option_map refusal_said r ≡ first (whole ++ places))) (sym c.first_found-own_refusal.ensures.value)
    (passed_on refusal_said whole places c.whole_refusal.result c.places_refusal.result c.whole_refusal.ensures c.places_refusal.ensures) in
    subst (λ o. IfOk o (λ r. option_map refusal_said r ≡ first ((whole ++ places) ++ more))) (sym c.first_found.ensures.value)
    (passed_on refusal_said (whole ++ places) more c.first_found-own_refusal.result c.further_refusal.result both c.further_refusal.ensures)
