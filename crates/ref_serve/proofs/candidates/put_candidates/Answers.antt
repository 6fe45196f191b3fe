use Rattle.std.proofs.Common.{◌≡◌, Some, map, option_map, sym, ap, ◌∙◌, rules}
use Rattle.serde_json.specs.View.{members_view}
use Rattle.ref_definitions.specs.Lookup.{lookup}
use Rattle.ref_index.specs.Listing.{listed_of}
use Rattle.ref_resolver.specs.Resolving.{resolver_of as resolver_view, world_of}
use Rattle.ref_serve.specs.Candidates.{choice_at}
use Rattle.ref_serve.specs.inner.Referred.{choice_seen}
use Rattle.ref_serve.proofs.Choosing.{put_by}
use Rattle.ref_serve.proofs.candidates.put_candidates.Goals as goal

pub returns : goal.returns
returns c =
    let answer = lookup (world_of c.args.resolver.now) (resolver_view c.args.resolver.now) c.args.text.now in
    let chosen : Some (choice_seen c.in-Some.choice) ≡ choice_at c.args.keyword.now c.args.text.now answer = sym (ap (option_map choice_seen) c.in-Some.is) ∙ c.in_ok-choice.ensures in
    put_by c.put.result (map listed_of c.args.places.now) (Some (choice_seen c.in-Some.choice)) (choice_at c.args.keyword.now c.args.text.now answer) (members_view c.args.members.now.entries)
    (members_view c.put.new.map.entries) chosen (search rules)
