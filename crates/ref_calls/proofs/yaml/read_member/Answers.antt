use Rattle.std.proofs.Common.{ap, sym, ◌∙◌}
use Rattle.serde_json.specs.Find.{get_member}
use Rattle.serde_json.specs.View.{view, members_view}
use Rattle.serde_json.proofs.Views.{get_member-put, get_member-put_other}
use Rattle.ref_calls.proofs.InYaml.{member_read, member_missing}
use Rattle.ref_calls.proofs.yaml.read_member.Goals as goal

pub returns-in_default-clause-read : goal.returns-in_default-clause-read
returns-in_default-clause-read c =
    let field = c.args.field.now in
    let before = members_view c.args.members.now.entries in
    member_missing field (get_member field before) _ c.in_default.ensures.value (c.taken.ensures.gone c.in_default.ensures.value)

pub returns-clause-read : goal.returns-clause-read
returns-clause-read c =
    let field = c.args.field.now in
    member_read field (get_member field (members_view c.args.members.now.entries)) _ (view c.in-Some.value) (view c.in_ok-read.read) c.in-Some.ensures.value
    (ap (get_member field) c.in_ok-put.ensures.ok ∙ get_member-put field (view c.in_ok-read.read) (members_view c.taken.new.members.entries)) c.in_ok-read.ensures

pub returns-clause-others : goal.returns-clause-others
returns-clause-others c other apart =
    ap (get_member other) c.in_ok-put.ensures.ok ∙ get_member-put_other other c.args.field.now (view c.in_ok-read.read) (members_view c.taken.new.members.entries) apart ∙ c.taken.ensures.others other apart
