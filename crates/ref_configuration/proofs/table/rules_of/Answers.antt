use Rattle.std.proofs.Common.{◌≡◌, ◌∷◌, ◌++◌, [], ◌∙◌, map, sym, ap}
use Rattle.toml.specs.View.{members_view}
use Rattle.ref_configuration.specs.Members.{rules_of}
use Rattle.ref_configuration.specs.View.{rule_level, where_of}
use Rattle.ref_configuration.proofs.Reading.{in_front, rules_step}
use Rattle.ref_configuration.proofs.table.rules_of.Goals as goal

pub loop-rule-preserved : goal.loop-rule-preserved
loop-rule-preserved c =
    let place = where_of c.args.at in
    let done = map rule_level c.loop-rule.list.items in
    let rest = c.next.new.self in
    let level = c.in-Some-level_in.level.now in
    let steps : c.loop-rule.rule-iterator ≡ (c.in-Some.rule.now, c.in-Some.value.now) ∷ rest = c.in-Some.ensures.steps in
    rules_step place done (map rule_level c.push_level.new.list.items) level (c.in-Some.rule.now, c.in-Some.value.now) rest (sym c.in-Some-level_in.ensures)
    (c.in_ok-push_level-in-Some-level_in.ensures ∙ ap (λ r. done ++ (r, level) ∷ []) c.as_str.ensures.value)
    ∙ ap (λ es. in_front done (rules_of place (members_view es))) (sym steps) ∙ c.loop-rule.invariant
