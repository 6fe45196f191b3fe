use Rattle.std.proofs.Common.{◌+◌, ◌*◌}
use Rattle.ref_yaml.proofs.expand.Expander.+emit.Given as goal

abbrev pub decreases-emit : goal.decreases-emit
decreases-emit l = 1000 * l.depth + 1

abbrev pub decreases-emit_meant : goal.decreases-emit_meant
decreases-emit_meant l = 1000 * l.depth

abbrev pub decreases-items : goal.decreases-items
decreases-items l = 1000 * l.depth + 2

abbrev pub decreases-members : goal.decreases-members
decreases-members l = 1000 * l.depth + 600

abbrev pub decreases-merge : goal.decreases-merge
decreases-merge l = 1000 * l.depth + 4 * l.levels + 5

abbrev pub decreases-own_members : goal.decreases-own_members
decreases-own_members l = 1000 * l.depth + 2

abbrev pub decreases-source : goal.decreases-source
decreases-source l = 1000 * l.depth + 4 * l.levels + 3

abbrev pub decreases-sources : goal.decreases-sources
decreases-sources l = 1000 * l.depth + 4 * l.levels + 4
