use Rattle.std.proofs.Common.{◌≡◌, map, None, MatchOption, subst, ◌∙◌, rules}
use Rattle.ref_definitions.specs.Anchors.{named_entry}
use Rattle.ref_resolver.specs.Layered.{world_in}
use Rattle.ref_resolver.specs.inner.Located.{IsNameOf, IsNamedAt}
use Rattle.ref_resolver.proofs.Locating.{near_name, far_name}
use Rattle.ref_resolver.proofs.layers.Layers.named.Goals as goal

pub returns-in-Some : goal.returns-in-Some
returns-in-Some c =
    let l = c.args.self.now in
    let (n, is, (kind, at)) = c.in-Some.ensures.value in
    record {
      value = near_name (IsNameOf c.in-Some.place) l.own.now (map (λ p. p.now) l.parents.now) c.args.uri.now c.args.name.now (n, is, (kind, at.place));
    }

pub returns-in_err-found-in-None : goal.returns-in_err-found-in-None
returns-in_err-found-in-None c =
    let l = c.args.self.now in
    let parents = map (λ p. p.now) l.parents.now in
    let there = named_entry parents c.args.uri.now c.args.name.now in
    let none = subst (λ o. MatchOption o (there ≡ None) (IsNamedAt (world_in l) there)) c.in_err-found-in-None.was (c.named_above.ensures.value l.own.now) in
    let nothing : named_entry (world_in l) c.args.uri.now c.args.name.now ≡ None = far_name l.own.now parents c.args.uri.now c.args.name.now c.in-None.ensures.value ∙ none in
    search rules

pub returns-in_ok-found-in-None : goal.returns-in_ok-found-in-None
returns-in_ok-found-in-None c =
    let l = c.args.self.now in
    let parents = map (λ p. p.now) l.parents.now in
    let there = named_entry parents c.args.uri.now c.args.name.now in
    let (n, is, (kind, at)) = subst (λ o. MatchOption o (there ≡ None) (IsNamedAt (world_in l) there)) c.in_ok-found-in-None.was (c.named_above.ensures.value l.own.now) in
    record { value = (n, far_name l.own.now parents c.args.uri.now c.args.name.now c.in-None.ensures.value ∙ is, (kind, at.there.place)) }
