use Rattle.std.proofs.Common.{◌∙◌, ap}
use Rattle.ref_draft.specs.Keywords.{is_one_of}
use Rattle.ref_rules.proofs.suspect.is_other.Goals as goal

pub returns-then-may_be_other : goal.returns-then-may_be_other
returns-then-may_be_other c = c.is_among.ensures ∙ ap (is_one_of c.args.keyword.now) c.of_others.ensures.value
