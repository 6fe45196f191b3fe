use Rattle.std.proofs.Common.{◌≡◌, ◌∙◌, map, None, Some, MatchOption, refl, sym, subst}
use Rattle.ref_resolver.specs.declared.located.Numbered.{Numbered}
use Rattle.ref_resolver.specs.Layered.{world_in}
use Rattle.ref_resolver.specs.inner.Located.{IsLocatedAt, IsMeantAt}
use Rattle.ref_index.specs.Spots.{spot_of}
use Rattle.ref_resolver.specs.Locations.{uri_spot, uri_spot_from}
use Rattle.ref_resolver.proofs.Spotting.{if_some, near_spot, far_spot}
use Rattle.ref_resolver.proofs.Locating.{near, far}
use Rattle.ref_resolver.proofs.layers.Layers.numbered_resource.Goals as goal

pub returns : goal.returns
returns c =
    let l = c.args.self.now in
    let found : Numbered = record { layer = 0; place = c.in-Some.place } in
    let (p, is, at) = c.in-Some.ensures.value in
    record {
      value = near (IsLocatedAt (world_in l) found) l.own.now (map (λ p. p.now) l.parents.now) c.args.uri.now (p, is, record { layer = l.own.now; numbered = refl; there = at });
      spot = near_spot 0 l.own.now (map (λ p. p.now) l.parents.now) c.args.uri.now (spot_of c.in-Some.place.entry.now) c.in-Some.ensures.spot;
    }

pub returns-in_default : goal.returns-in_default
returns-in_default c =
    let l = c.args.self.now in
    record {
      value = subst (λ o. MatchOption c.resource_above.result (o ≡ None) (IsMeantAt (world_in l) o))
          (sym (far l.own.now (map (λ p. p.now) l.parents.now) c.args.uri.now c.in_default.ensures.value)) (c.resource_above.ensures.value l.own.now);
      spot = if_some (λ f. uri_spot_from 1 (map (λ p. p.now) l.parents.now) c.args.uri.now ≡ Some (f.layer, spot_of f.place.entry.now)) (λ f. uri_spot (world_in l) c.args.uri.now ≡ Some (f.layer, spot_of f.place.entry.now)) c.resource_above.result
          (λ f is. far_spot 0 l.own.now (map (λ p. p.now) l.parents.now) c.args.uri.now c.in_default.ensures.value ∙ is) c.resource_above.ensures.spot;
    }
