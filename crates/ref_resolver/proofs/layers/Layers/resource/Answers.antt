use Rattle.std.proofs.Common.{◌≡◌, map, None, MatchOption, subst, ◌∙◌, rules}
use Rattle.ref_definitions.specs.Resources.{meant_place}
use Rattle.ref_resolver.specs.Layered.{world_in}
use Rattle.ref_resolver.specs.inner.Located.{IsLocated, IsMeantAt}
use Rattle.ref_resolver.proofs.Locating.{near, far}
use Rattle.ref_resolver.proofs.layers.Layers.resource.Goals as goal

pub returns-in-Some : goal.returns-in-Some
returns-in-Some c =
    let l = c.args.self.now in
    let (p, is, at) = c.in-Some.ensures.value in
    record { value = near (IsLocated c.in-Some.place) l.own.now (map (λ p. p.now) l.parents.now) c.args.uri.now (p, is, at.place) }

pub returns-in_err-found-in-None : goal.returns-in_err-found-in-None
returns-in_err-found-in-None c =
    let l = c.args.self.now in
    let parents = map (λ p. p.now) l.parents.now in
    let none = subst (λ o. MatchOption o (meant_place parents c.args.uri.now ≡ None) (IsMeantAt (world_in l) (meant_place parents c.args.uri.now))) c.in_err-found-in-None.was (c.resource_above.ensures.value l.own.now) in
    let nothing : meant_place (world_in l) c.args.uri.now ≡ None = far l.own.now parents c.args.uri.now c.in-None.ensures.value ∙ none in
    search rules

pub returns-in_ok-found-in-None : goal.returns-in_ok-found-in-None
returns-in_ok-found-in-None c =
    let l = c.args.self.now in
    let parents = map (λ p. p.now) l.parents.now in
    let (p, is, at) = subst (λ o. MatchOption o (meant_place parents c.args.uri.now ≡ None) (IsMeantAt (world_in l) (meant_place parents c.args.uri.now))) c.in_ok-found-in-None.was (c.resource_above.ensures.value l.own.now) in
    record { value = (p, far l.own.now parents c.args.uri.now c.in-None.ensures.value ∙ is, at.there.place) }
