use Rattle.std.proofs.Common.{◌≡◌, ◌-◌, map, drop}
use Rattle.serde_json.specs.View.{view}
use Rattle.referencing.specs.Views.{walked_child}
use Rattle.referencing.specs.Resolving.{resolver_of, world_of}
use Rattle.uses.specs.Validating.{at_children, validated_within}
use Rattle.uses.proofs.validator.+validated.Given as goal

abbrev pub decreases-validated : goal.decreases-validated
decreases-validated l = l.depth

abbrev pub invariant-loop-child : goal.invariant-loop-child
invariant-loop-child l =
    validated_within (world_of l.resolver) l.depth (resolver_of l.resolver) l.fn.draft (view l.schema) (view l.instance)
    ≡ at_children (validated_within (world_of l.resolver) (l.depth - 1)) (resolver_of l.resolver) (view l.instance) (map walked_child (drop l.child-index l.child-items))
