use Rattle.std.proofs.Common.{◌≡◌, map, filter, take, option_map}
use Rattle.std.specs.List.{enumerate_from}
use Rattle.ref_rules.specs.Ends.{is_no_schema}
use Rattle.ref_rules.specs.Views.{end_of}
use Rattle.ref_rules.proofs.schemas.no_schemas.Given as goal

abbrev pub invariant-loop-number : goal.invariant-loop-number
invariant-loop-number l = l.list.items ≡ map (λ e. e.0) (filter is_no_schema (enumerate_from 0 (map (option_map end_of) (take l.number l.ends))))
