use Rattle.std.proofs.Common.{◌≡◌, ◌∙◌, rules}
use Rattle.serde_json.specs.Data.{no_members}
use Rattle.serde_json.specs.View.{view, members_view}
use Rattle.serde_json.proofs.Views.{view-Object}
use Rattle.ref_resolver.specs.Resolving.{resolver_of as resolver_view}
use Rattle.ref_serve.specs.Results.{found_members, resolver_members}
use Rattle.ref_serve.specs.inner.Seen.{asked_view}
use Rattle.ref_serve.proofs.Giving.{in_two_steps}
use Rattle.ref_serve.proofs.place.located_object.Goals as goal

pub returns : goal.returns
returns c =
    let asked = asked_view c.args.asked.now in
    let found = c.args.found.now in
    let next = resolver_view c.args.resolver.now in
    let none : members_view c.new-members.result.entries ≡ no_members = search rules in
    view-Object c.put_resolver.new.members
    ∙ in_two_steps (found_members asked found.location (view found.value.now) found.draft) (resolver_members asked.kept next) (members_view c.new-members.result.entries) (members_view c.put_found.new.members.entries)
    (members_view c.put_resolver.new.members.entries) none c.in_ok-put_found.ensures c.in_ok-put_resolver.ensures
