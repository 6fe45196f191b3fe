use Rattle.std.proofs.Common.{◌≡◌, true, is_some, Ok, subst, rules}
use Rattle.ref_uri.specs.Components.{scheme}
use Rattle.ref_uri.specs.Targets.{uri_of}
use Rattle.ref_index.proofs.NormalUris.{means_itself}
use Rattle.ref_index.proofs.index.is_normal.Goals as goal

pub returns-in-Ok : goal.returns-in-Ok
returns-in-Ok c = λ holds.
    let uri = c.args.uri.now in
    let text : c.as_str.result.now ≡ uri = search rules in
    let same : c.in-Ok.normal ≡ uri = search rules in
    let there : is_some (scheme uri) ≡ true = search rules in
    means_itself uri c.in-Ok.normal (subst (λ t. uri_of t ≡ Ok c.in-Ok.normal) text c.in-Ok.ensures.gives) same there
