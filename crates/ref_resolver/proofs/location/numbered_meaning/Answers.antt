use Rattle.std.proofs.Common.{◌≡◌, Some, None, Err, MatchOption, sym, subst, rules}
use Rattle.ref_definitions.specs.Anchors.{anchor, named_entry, named_by_identifier, not_named}
use Rattle.ref_resolver.specs.Layered.{world_in}
use Rattle.ref_resolver.specs.inner.Located.{IsNameAt, IsNamedAt}
use Rattle.ref_resolver.proofs.Locating.{anchor_there, anchor_nowhere, anchor_after}
use Rattle.ref_index.specs.Spots.{spot_of}
use Rattle.ref_resolver.specs.Locations.{name_spot, anchor_spot}
use Rattle.ref_resolver.proofs.Spotting.{if_some, anchor_spot_near, anchor_spot_after}
use Rattle.ref_resolver.proofs.location.numbered_meaning.Goals as goal

pub returns-in-Some-clause-value : goal.returns-in-Some-clause-value
returns-in-Some-clause-value c =
    let w = world_in c.args.layers.now in
    anchor_there (IsNameAt w c.in-Some.found) w c.args.uri.now c.args.name.now c.in-Some.ensures.value

pub returns-in_err-identified_base-in-None-clause-value : goal.returns-in_err-identified_base-in-None-clause-value
returns-in_err-identified_base-in-None-clause-value c =
    let w = world_in c.args.layers.now in
    let uri = c.args.uri.now in
    let name = c.args.name.now in
    let absent = subst (λ o. MatchOption o (named_by_identifier w uri name ≡ None) (λ base. named_by_identifier w uri name ≡ named_entry w base.now name)) c.in_err-identified_base-in-None.was (c.identified_base.ensures.value name) in
    let nothing : anchor w uri name ≡ Err (not_named name) = anchor_nowhere w uri name c.in-None.ensures.value absent in
    search rules

pub returns-in_ok-identified_base-in-None-clause-value : goal.returns-in_ok-identified_base-in-None-clause-value
returns-in_ok-identified_base-in-None-clause-value c =
    let w = world_in c.args.layers.now in
    let uri = c.args.uri.now in
    let name = c.args.name.now in
    let found = c.numbered_name-in-None.result in
    let at : named_by_identifier w uri name ≡ named_entry w c.in_ok-identified_base-in-None.field-0.now name = c.in_ok-identified_base-in-None.ensures.value name in
    anchor_after (IsNameAt w) w uri name found c.in-None.ensures.value (subst (λ o. MatchOption found (o ≡ None) (IsNamedAt w o)) (sym at) c.numbered_name-in-None.ensures.value)

pub returns-in-Some-clause-spot : goal.returns-in-Some-clause-spot
returns-in-Some-clause-spot c =
    let found = c.in-Some.found in
    anchor_spot_near (world_in c.args.layers.now) c.args.uri.now c.args.name.now (found.place.layer, spot_of found.place.place.entry.now) c.in-Some.ensures.spot

pub returns-in_ok-identified_base-in-None-clause-spot : goal.returns-in_ok-identified_base-in-None-clause-spot
returns-in_ok-identified_base-in-None-clause-spot c =
    let w = world_in c.args.layers.now in
    let uri = c.args.uri.now in
    let name = c.args.name.now in
    let base = c.in_ok-identified_base-in-None.field-0.now in
    if_some (λ f. name_spot w base name ≡ Some (f.place.layer, spot_of f.place.place.entry.now)) (λ f. anchor_spot w uri name ≡ Some (f.place.layer, spot_of f.place.place.entry.now)) c.numbered_name-in-None.result
    (λ f is. anchor_spot_after w uri name base (f.place.layer, spot_of f.place.place.entry.now) c.in-None.ensures.value c.in_ok-identified_base-in-None.ensures.base is) c.numbered_name-in-None.ensures.spot
