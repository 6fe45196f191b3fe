use Rattle.std.proofs.Common.{◌≡◌, map, drop}
use Rattle.ref_levels.specs.Levels.{is_rule}
use Rattle.ref_levels.proofs.levels.rule_among.Given as goal

abbrev pub invariant-loop-rule : goal.invariant-loop-rule
invariant-loop-rule l = is_rule (map (λ r. r.code.now) (drop l.rule-index l.rules)) l.code ≡ is_rule (map (λ r. r.code.now) l.rules) l.code
