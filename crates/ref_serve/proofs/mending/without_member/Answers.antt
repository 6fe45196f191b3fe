use Rattle.std.proofs.Common.{ap, sym, ◌∙◌}
use Rattle.serde_json.specs.Data.{object}
use Rattle.serde_json.specs.View.{view, members_view}
use Rattle.serde_json.proofs.Views.{view-Object}
use Rattle.ref_serve.specs.Mending.{without_member}
use Rattle.ref_serve.proofs.Passing.{taken_out}
use Rattle.ref_serve.proofs.mending.without_member.Goals as goal

pub returns-in-Object : goal.returns-in-Object
returns-in-Object c =
    let key = c.args.key.now in
    let members = c.in-Object.members in
    view-Object c.remove.new.self ∙ ap (λ es. object (members_view es)) c.remove.ensures.entries ∙ ap object (taken_out key members.entries)
    ∙ ap (without_member key) (sym (ap view c.in-Object.is ∙ view-Object members))
