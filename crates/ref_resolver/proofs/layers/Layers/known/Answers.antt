use Rattle.std.proofs.Common.{map}
use Rattle.ref_definitions.specs.Resources.{last_under, resources}
use Rattle.ref_resolver.proofs.Locating.{meant_near}
use Rattle.ref_resolver.proofs.layers.Layers.known.Goals as goal

pub returns-in-Some-clause-place : goal.returns-in-Some-clause-place
returns-in-Some-clause-place c =
    let l = c.args.self.now in
    let uri = c.in-Some.entry.now.base.value in
    meant_near l.own.now (map (λ p. p.now) l.parents.now) uri c.place_of.result (c.place_of.ensures.place (last_under uri (resources l.own.now)) c.in-Some.ensures.place)

pub returns-clause-place : goal.returns-clause-place
returns-clause-place c =
    let l = c.args.self.now in
    let uri = c.in_ok-found.found.uri.now.value in
    meant_near l.own.now (map (λ p. p.now) l.parents.now) uri c.place_of-2.result (c.place_of-2.ensures.place (last_under uri (resources l.own.now)) c.in_ok-found.ensures.place)
