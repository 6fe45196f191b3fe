use Rattle.std.proofs.Common.{◌≡◌, true, sym, ◌∙◌}
use Rattle.ref_resolver.specs.inner.Names.{is_name}
use Rattle.ref_resolver.proofs.resolver.Resolver.within.Goals as goal

pub returns-then-is_name-clause-gives : goal.returns-then-is_name-clause-gives
returns-then-is_name-clause-gives c = λ reference is part.
    let name : is_name c.args.fragment.now ≡ true = sym c.is_name.ensures ∙ c.if-is_name.true in
    c.at_name.ensures.gives reference is part name
