use Rattle.std.proofs.Common.{rules}
use Rattle.ref_uri.specs.Targets.{uri_against}
use Rattle.ref_error.proofs.Saying.{refused_uri}
use Rattle.ref_resolver.proofs.layers.anew.Goals as goal

pub returns-in_err-uri : goal.returns-in_err-uri
returns-in_err-uri c =
    let fault = refused_uri (uri_against c.args.base c.args.uri.now) c.in_err-uri.field-0.0 c.in_err-uri.ensures.gives in
    search rules
