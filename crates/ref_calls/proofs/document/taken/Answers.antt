use Rattle.std.proofs.Common.{option_map, ap, ◌∙◌}
use Rattle.serde_json.specs.Find.{get_member}
use Rattle.serde_json.specs.View.{view, members_view}
use Rattle.serde_json.proofs.Views.{view-lookup}
use Rattle.ref_calls.proofs.Documents.{others_kept, still_gone}
use Rattle.ref_calls.proofs.document.taken.Goals as goal

pub returns-clause-value : goal.returns-clause-value
returns-clause-value c = ap (option_map view) c.remove.ensures.value ∙ view-lookup c.args.key.now c.args.members.now.entries

pub returns-clause-others : goal.returns-clause-others
returns-clause-others c other apart =
    ap (λ es. get_member other (members_view es)) c.remove.ensures.entries ∙ others_kept c.args.key.now other c.args.members.now.entries apart

pub returns-clause-gone : goal.returns-clause-gone
returns-clause-gone c none = ap (λ es. get_member c.args.key.now (members_view es)) c.remove.ensures.entries ∙ still_gone c.args.key.now c.args.members.now.entries none
