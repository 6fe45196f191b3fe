use Rattle.std.proofs.Common.{◌≡◌, [], ◌∷◌, Ok, Err, IfOk, subst, rules}
use Rattle.ref_uri.specs.Targets.{target}
use Rattle.ref_definitions.specs.Lookup.{lookup}
use Rattle.ref_resolver.specs.Resolving.{world_of, resolver_of}
use Rattle.ref_reach.specs.Leading.{at_base}
use Rattle.ref_reach.specs.Views.{place_of}
use Rattle.ref_reach.specs.Knowing.{known_of}
use Rattle.ref_reach.specs.inner.Saying.{IsOutcome}
use Rattle.ref_reach.proofs.Found.{text_is_fault}
use Rattle.ref_reach.proofs.leading.text_outcome.Goals as goal

pub returns : goal.returns
returns c =
    let known = known_of c.args.documents.now in
    let p = place_of c.args.place.now in
    let r = c.from_parts-resolver.result in
    let w = c.in_ok-error-in-Err.ensures (lookup (world_of r) (resolver_of r) c.args.text.now) (search rules) in
    let meant : target p.base c.args.text.now ≡ Ok c.in-Ok.uri.value = search rules in
    let is : lookup (known.layer ∷ []) (at_base p.base) c.args.text.now ≡ Err w.0 = search rules in
    subst (λ o. IfOk c.unresolvable.result (IsOutcome o)) (text_is_fault known p c.args.wanted c.args.text.now c.in-Ok.uri.value w.0 meant is) (c.unresolvable.ensures w.0 w.2)
