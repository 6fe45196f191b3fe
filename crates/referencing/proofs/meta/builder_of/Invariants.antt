use Rattle.std.proofs.Common.{◌≡◌, [], map, drop}
use Rattle.ref_definitions.specs.Pending.{with_additions}
use Rattle.referencing.specs.Builder.{builder_of, holding_pending, new_builder}
use Rattle.referencing.specs.MetaSchemas.{meta_addition}
use Rattle.referencing.proofs.meta.builder_of.Given as goal

abbrev pub invariant-loop-pair : goal.invariant-loop-pair
invariant-loop-pair l =
    (builder_of l.builder ≡ holding_pending (builder_of l.builder).pending (new_builder (builder_of l.builder).retriever [] []))
    × (with_additions (builder_of l.builder).pending (map meta_addition (drop l.pair-index l.pairs)) ≡ with_additions [] (map meta_addition l.pairs))
