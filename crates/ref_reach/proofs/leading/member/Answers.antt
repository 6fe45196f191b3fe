use Rattle.std.proofs.Common.{◌≡◌, ◌∙◌, Some, option_map, ap, nat_cmp, Equal, string_bytes, rules}
use Rattle.std.specs.Cmp.Lexicographic.{slice_cmp}
use Rattle.serde_json.specs.Find.{as_object}
use Rattle.serde_json.specs.View.{view, members_view}
use Rattle.serde_json.proofs.Views.{view-lookup}
use Rattle.ref_reach.proofs.Members.{held, same_key}
use Rattle.ref_reach.proofs.leading.member.Goals as goal

pub returns-in_err-name-clause-value : goal.returns-in_err-name-clause-value
returns-in_err-name-clause-value c =
    let members = c.in_ok-members.members.now.entries in
    let is : Some (members_view members) ≡ as_object (view c.args.value.now) = search rules in
    search (rules, ap (option_map view) c.get_key_value.ensures.value, view-lookup c.args.key.now members, held c.args.key.now (view c.args.value.now) (members_view members) is)

pub returns-clause-value : goal.returns-clause-value
returns-clause-value c =
    let members = c.in_ok-members.members.now.entries in
    let is : Some (members_view members) ≡ as_object (view c.args.value.now) = search rules in
    search (rules, ap (option_map view) c.get_key_value.ensures.value, view-lookup c.args.key.now members, held c.args.key.now (view c.args.value.now) (members_view members) is)

pub returns-clause-key : goal.returns-clause-key
returns-clause-key c =
    let is : slice_cmp nat_cmp c.args.key.now (string_bytes c.in_ok-name.name.now) ≡ Equal = search (rules, c.get_key_value.ensures.same_key) in
    same_key c.args.key.now (string_bytes c.in_ok-name.name.now) is
