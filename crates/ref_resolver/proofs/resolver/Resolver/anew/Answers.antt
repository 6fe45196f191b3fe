use Rattle.std.proofs.Common.{◌≡◌, Ok, sym, ap, subst, ◌∙◌, rules}
use Rattle.ref_uri.specs.Targets.{uri_against}
use Rattle.ref_definitions.specs.Fault.{as_invalid_uri}
use Rattle.ref_error.specs.Errors.{IsFaultOf}
use Rattle.ref_error.proofs.Saying.{uri_meant}
use Rattle.ref_resolver.specs.Resolving.{resolver_of, world_of, found_of}
use Rattle.ref_resolver.proofs.Referring.{refused_gives}
use Rattle.ref_resolver.proofs.resolver.Resolver.anew.Goals as goal

pub returns-in_err-uri-clause-gives : goal.returns-in_err-uri-clause-gives
returns-in_err-uri-clause-gives c = λ reference same part.
    refused_gives found_of (world_of c.args.self.now) (resolver_of c.args.self.now) reference c.in_err-uri.field-0.0 c.from_residual.result (subst (λ a. IsFaultOf (as_invalid_uri a) c.in_err-uri.field-0.0) (sym same) (rw c.deref.ensures at c.in_err-uri.ensures.gives)) (search rules)

pub returns-clause-gives : goal.returns-clause-gives
returns-clause-gives c = λ reference same part.
    let means = same ∙ uri_meant (uri_against (resolver_of c.args.self.now).base c.args.text.now) c.in_ok-uri.uri.value (rw c.deref.ensures at c.in_ok-uri.ensures.gives) in
    c.within.ensures.gives reference means part
