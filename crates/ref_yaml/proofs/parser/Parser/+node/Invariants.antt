use Rattle.std.proofs.Common.{◌+◌, ◌*◌}
use Rattle.ref_yaml.proofs.parser.Parser.+node.Given as goal

abbrev pub decreases-array : goal.decreases-array
decreases-array l = 8 * l.depth + 7

abbrev pub decreases-block_list : goal.decreases-block_list
decreases-block_list l = 8 * l.depth + 1

abbrev pub decreases-block_node : goal.decreases-block_node
decreases-block_node l = 8 * l.depth + 3

abbrev pub decreases-content : goal.decreases-content
decreases-content l = 8 * l.depth + 2

abbrev pub decreases-explicit_member : goal.decreases-explicit_member
decreases-explicit_member l = 8 * l.depth + 5

abbrev pub decreases-member : goal.decreases-member
decreases-member l = 8 * l.depth + 6

abbrev pub decreases-member_value : goal.decreases-member_value
decreases-member_value l = 8 * l.depth + 4

abbrev pub decreases-object : goal.decreases-object
decreases-object l = 8 * l.depth + 7

abbrev pub decreases-scalar_or_object : goal.decreases-scalar_or_object
decreases-scalar_or_object l = 8 * l.depth + 1
