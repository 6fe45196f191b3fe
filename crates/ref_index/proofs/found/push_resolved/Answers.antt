use Rattle.std.proofs.Common.{◌≡◌, subst, sym, rules, Ok, None, refl}
use Rattle.ref_uri.specs.Targets.{uri_against}
use Rattle.ref_parts.specs.Table as table
use Rattle.ref_index.specs.inner.Found.{IsPairOf}
use Rattle.ref_index.specs.declared.found.ResolvedUri.{ResolvedUri}
use Rattle.ref_index.proofs.Listing.{on_ok}
use Rattle.ref_index.proofs.found.push_resolved.Goals as goal

pub returns : goal.returns
returns c = λ means.
    let same : c.in_ok-uri.uri.value ≡ c.args.uri.now.value = search rules in
    let entry : table.Entry ResolvedUri = (c.args.base.now, c.args.text.now, record { uri = c.in_ok-uri.uri; entry = None }) in
    let is : IsPairOf entry (c.args.base.now, c.args.text.now) = (refl, refl, subst (λ u. uri_against c.args.base.now c.args.text.now ≡ Ok u) (sym same) means) in
    on_ok c.push.result (λ more. (entry, more, is)) c.push.ensures.value
