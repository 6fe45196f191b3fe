use Rattle.std.proofs.Common.{◌≡◌, map, subst, rules}
use Rattle.std.specs.List.{Contains}
use Rattle.ref_definitions.specs.Cached.{pairs}
use Rattle.ref_resolver.proofs.Held.{held_above}
use Rattle.ref_resolver.proofs.layers.Layers.resolved_uri.Goals as goal

pub returns-in-None-clause-held : goal.returns-in-None-clause-held
returns-in-None-clause-held c held =
    let base : c.as_str.result.now ≡ c.args.base.now = search rules in
    let none = subst (λ b. Contains (pairs c.args.self.now.own.now) (b, c.args.uri.now) → ⊥) base c.in-None.ensures.value in
    search (c.resolved_above.ensures.held, held_above c.args.self.now.own.now (map (λ p. p.now) c.args.self.now.parents.now) c.args.base.now c.args.uri.now none held, base, rules)
