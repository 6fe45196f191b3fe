use Rattle.ref_json.proofs.Texts.{text_read, none_read, not_json_by}
use Rattle.ref_json.proofs.text.tree_of.Goals as goal

pub returns-in-Ok-clause-tree : goal.returns-in-Ok-clause-tree
returns-in-Ok-clause-tree c = text_read _ _ c.in-Ok.ensures.ok.0 c.in-Ok.ensures.ok.1

pub returns-in-Err-clause-not_json : goal.returns-in-Err-clause-not_json
returns-in-Err-clause-not_json c = not_json_by _ _ _ c.stop_of.ensures.memory.1 c.stop_of.ensures.place (λ other. none_read _ (c.in-Err.ensures.err other))
