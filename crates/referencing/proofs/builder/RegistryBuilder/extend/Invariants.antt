use Rattle.std.proofs.Common.{map}
use Rattle.ref_definitions.specs.Pending.{with_additions}
use Rattle.referencing.specs.Builder.{builder_of, addition, Adds}
use Rattle.referencing.proofs.builder.RegistryBuilder.extend.Given as goal

abbrev pub invariant-loop-uri : goal.invariant-loop-uri
invariant-loop-uri g l =
    (goal.iterator-loop-uri g).can_next l.uri-iterator ×
    (goal.iterator-loop-uri g).is_finite l.uri-iterator ×
    Adds (with_additions (builder_of l.fn.self).pending (map (λ x. addition (g.U.AsStr.text x.0) (g.T.IntoRegistryResource.tree x.1) (g.T.IntoRegistryResource.given_draft x.1)) l.yielded)) (builder_of l.fn.self) (builder_of l.builder)
