use Rattle.std.proofs.Common.{◌≡◌, None, rules}
use Rattle.ref_definitions.specs.Anchors.{named_entry}
use Rattle.ref_resolver.specs.Layered.{world_in}
use Rattle.ref_resolver.specs.inner.Located.{IsNameOf}
use Rattle.ref_resolver.proofs.Locating.{anchor_there, anchor_after}
use Rattle.ref_resolver.proofs.fragment.meaning.Goals as goal

pub returns-in-Some : goal.returns-in-Some
returns-in-Some c =
    anchor_there (IsNameOf c.in-Some.found) (world_in c.args.layers.now) c.args.uri.now c.args.name.now c.in-Some.ensures.value

pub returns-in-None : goal.returns-in-None
returns-in-None c =
    let none : named_entry (world_in c.args.layers.now) c.args.uri.now c.args.name.now ≡ None = search rules in
    anchor_after IsNameOf (world_in c.args.layers.now) c.args.uri.now c.args.name.now c.named_by_identifier.result none
    c.named_by_identifier.ensures
