use Rattle.std.proofs.Common.{◌≡◌, ◌∙◌, map, None, Some, MatchOption, refl, sym, subst}
use Rattle.ref_definitions.specs.Anchors.{named_entry}
use Rattle.ref_resolver.specs.declared.located.NumberedName.{NumberedName}
use Rattle.ref_resolver.specs.Layered.{world_in}
use Rattle.ref_resolver.specs.inner.Located.{IsNameAt, IsNamedAt}
use Rattle.ref_index.specs.Spots.{spot_of}
use Rattle.ref_resolver.specs.Locations.{name_spot, name_spot_from}
use Rattle.ref_resolver.proofs.Spotting.{if_some, near_name_spot, far_name_spot}
use Rattle.ref_resolver.proofs.Locating.{near_name, far_name}
use Rattle.ref_resolver.proofs.layers.Layers.numbered_name.Goals as goal

pub returns : goal.returns
returns c =
    let l = c.args.self.now in
    let w = world_in l in
    let found : NumberedName = record { named = c.in-Some.found.named; place = record { layer = 0; place = c.in-Some.found.place } } in
    let (n, is, (kind, at)) = c.in-Some.ensures.value in
    let near = near_name (IsNameAt w found) l.own.now (map (λ p. p.now) l.parents.now) c.args.uri.now c.args.name.now
    (n, is, (kind, record { layer = l.own.now; numbered = refl; there = at })) in
    let at = near_name_spot 0 l.own.now (map (λ p. p.now) l.parents.now) c.args.uri.now c.args.name.now (spot_of c.in-Some.found.place.entry.now) c.in-Some.ensures.spot in
    record {
      value = subst (IsNamedAt w (named_entry w c.args.uri.now c.args.name.now)) (sym c.with_layer.ensures) near;
      spot = subst (λ (f : NumberedName). name_spot w c.args.uri.now c.args.name.now ≡ Some (f.place.layer, spot_of f.place.place.entry.now)) (sym c.with_layer.ensures) at;
    }

pub returns-in_default : goal.returns-in_default
returns-in_default c =
    let l = c.args.self.now in
    record {
      value = subst (λ o. MatchOption c.named_above.result (o ≡ None) (IsNamedAt (world_in l) o))
          (sym (far_name l.own.now (map (λ p. p.now) l.parents.now) c.args.uri.now c.args.name.now c.in_default.ensures.value)) (c.named_above.ensures.value l.own.now);
      spot = if_some (λ f. name_spot_from 1 (map (λ p. p.now) l.parents.now) c.args.uri.now c.args.name.now ≡ Some (f.place.layer, spot_of f.place.place.entry.now))
          (λ f. name_spot (world_in l) c.args.uri.now c.args.name.now ≡ Some (f.place.layer, spot_of f.place.place.entry.now)) c.named_above.result
          (λ f is. far_name_spot 0 l.own.now (map (λ p. p.now) l.parents.now) c.args.uri.now c.args.name.now c.in_default.ensures.value ∙ is) c.named_above.ensures.spot;
    }
