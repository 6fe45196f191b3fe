use Rattle.std.proofs.Common.{◌≡◌, map}
use Rattle.toml.specs.View.{members_view}
use Rattle.ref_configuration.specs.Members.{rules_of}
use Rattle.ref_configuration.specs.View.{rule_level, where_of}
use Rattle.ref_configuration.proofs.Reading.{in_front}
use Rattle.ref_configuration.proofs.table.rules_of.Given as goal

abbrev pub invariant-loop-rule : goal.invariant-loop-rule
invariant-loop-rule l =
    in_front (map rule_level l.list.items) (rules_of (where_of l.at) (members_view l.rule-iterator)) ≡ rules_of (where_of l.at) (members_view l.members.entries)
