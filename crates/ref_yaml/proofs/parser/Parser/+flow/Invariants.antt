use Rattle.std.proofs.Common.{◌+◌, ◌*◌}
use Rattle.ref_yaml.proofs.parser.Parser.+flow.Given as goal

abbrev pub decreases-flow_array : goal.decreases-flow_array
decreases-flow_array l = 8 * l.depth + 6

abbrev pub decreases-flow_entry : goal.decreases-flow_entry
decreases-flow_entry l = 8 * l.depth + 5

abbrev pub decreases-flow_list : goal.decreases-flow_list
decreases-flow_list l = 8 * l.depth + 1

abbrev pub decreases-flow_member : goal.decreases-flow_member
decreases-flow_member l = 8 * l.depth + 4

abbrev pub decreases-flow_node : goal.decreases-flow_node
decreases-flow_node l = 8 * l.depth + 2

abbrev pub decreases-flow_object : goal.decreases-flow_object
decreases-flow_object l = 8 * l.depth + 6

abbrev pub decreases-flow_pair : goal.decreases-flow_pair
decreases-flow_pair l = 8 * l.depth + 3

abbrev pub decreases-flow_value : goal.decreases-flow_value
decreases-flow_value l = 8 * l.depth + 3
