-- Resolvers compare as their bases do.
use Rattle.std.specs.Prelude.{bytes_eq}
use Rattle.std.specs.Cmp.{IsEquivalence}
use Rattle.std.specs.Cmp.Lexicographic.{nat_list_eq_equiv}
use Rattle.ref_resolver.specs.declared.resolver.Resolver.{Resolver}
use Rattle.ref_resolver.specs.Resolving.{resolver_of}

pub by_base : IsEquivalence (λ (a b : Resolver). bytes_eq (resolver_of a).base (resolver_of b).base)
by_base = record {
  refl = λ a. nat_list_eq_equiv.refl (resolver_of a).base;
  symm = λ a b. nat_list_eq_equiv.symm (resolver_of a).base (resolver_of b).base;
  congr =
      λ a b c. nat_list_eq_equiv.congr (resolver_of a).base (resolver_of b).base
      (resolver_of c).base;
}
