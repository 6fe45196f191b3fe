use Rattle.std.proofs.Common.{◌≡◌, ℕ, List, true, false, is_some, ◌∙◌, rules}
use Rattle.ref_definitions.specs.Fault.{not_retrieved}
use Rattle.ref_definitions.specs.Resources.{meant_place}
use Rattle.ref_definitions.specs.Anchors.{anchor, not_named}
use Rattle.ref_definitions.specs.Lookup.{lookup, moved_resolver, named_found}
use Rattle.ref_resolver.specs.Resolving.{resolver_of, world_of}
use Rattle.ref_error.proofs.Saying.{says_of}
use Rattle.ref_resolver.proofs.Faults.{ends}
use Rattle.ref_resolver.proofs.Lookups.{lookup_absent}
use Rattle.ref_resolver.proofs.Names.{absent_of, lookup_named}
use Rattle.ref_resolver.proofs.resolver.Resolver.no_name.Goals as goal

pub returns-then-has_resource : goal.returns-then-has_resource
returns-then-has_resource c = λ reference is fragment name none.
    let w = world_of c.args.self.now in
    let r = resolver_of c.args.self.now in
    let uri : List ℕ = c.args.uri.now in
    let present : is_some (meant_place w uri) ≡ true = search rules in
    let fault = ends (anchor w uri c.args.name.now) (λ n. named_found w (moved_resolver r uri) n n.kind) (not_named c.args.name.now) none in
    says_of (lookup w r reference) (not_named c.args.name.now) c.not_named.result (lookup_named w r reference uri c.args.name.now is present fragment name ∙ fault) c.not_named.ensures

pub returns-else-has_resource : goal.returns-else-has_resource
returns-else-has_resource c = λ reference is fragment name none.
    let w = world_of c.args.self.now in
    let r = resolver_of c.args.self.now in
    let uri : List ℕ = c.args.uri.now in
    let absent : is_some (meant_place w uri) ≡ false = search rules in
    says_of (lookup w r reference) (not_retrieved uri) c.not_retrieved.result (lookup_absent w r reference uri is (absent_of (meant_place w uri) absent)) c.not_retrieved.ensures.fault
