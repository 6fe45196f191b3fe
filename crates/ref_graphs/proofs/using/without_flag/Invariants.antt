use Rattle.std.proofs.Common.{◌≡◌, filter, take, not, get_or, false}
use Rattle.ref_graphs.specs.Using.{numbers}
use Rattle.ref_graphs.proofs.using.without_flag.Given as goal

abbrev pub invariant-loop-number : goal.invariant-loop-number
invariant-loop-number l = l.list.items ≡ filter (λ d. not (get_or l.flags d false)) (numbers (take l.number l.around))
