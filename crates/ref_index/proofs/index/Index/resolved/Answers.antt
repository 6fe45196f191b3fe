use Rattle.std.proofs.Common.{◌∙◌, sym, ap, subst, option_copied, rules}
use Rattle.std.specs.List.{Contains}
use Rattle.ref_definitions.specs.Cached.{pairs}
use Rattle.ref_index.specs.inner.Index.{IsIndexOf}
use Rattle.ref_index.proofs.Looking.{pair_absent, pair_found, resource_found}
use Rattle.ref_index.proofs.index.Index.resolved.Goals as goal

pub returns-in_err-resolved : goal.returns-in_err-resolved
returns-in_err-resolved c =
    let is = subst (λ l. IsIndexOf l c.self.inside.entries.items c.self.inside.by_uri c.self.inside.by_name c.self.inside.by_pair c.self.inside.is_normal) c.self.view_is c.self.invariant in
    let unresolved : ¬ (Contains (pairs c.args.self.now) (c.args.base.now, c.args.text.now)) =
    pair_absent c.self.inside.by_uri c.args.base.now c.args.text.now c.self.inside.by_pair (pairs c.args.self.now) is.pair (sym c.find.ensures.value ∙ ap option_copied c.in_err-resolved.was) in
    search rules

pub returns : goal.returns
returns c =
    let is = subst (λ l. IsIndexOf l c.self.inside.entries.items c.self.inside.by_uri c.self.inside.by_name c.self.inside.by_pair c.self.inside.is_normal) c.self.view_is c.self.invariant in
    let found = c.in_ok-resolved.resolved.now in
    let (means, number) = pair_found c.self.inside.by_uri c.args.base.now c.args.text.now c.self.inside.by_pair (pairs c.args.self.now) found is.pair (sym c.find.ensures.value ∙ ap option_copied c.in_ok-resolved.was) in
    let at = rw c.as_slice.ensures.value at c.entry_at.ensures in
    let placed = resource_found c.args.self.now c.self.inside.entries.items found.uri.value c.self.inside.by_uri found.entry c.entry_at.result is.resource number at in
    record { value = means; place = placed.0 }
