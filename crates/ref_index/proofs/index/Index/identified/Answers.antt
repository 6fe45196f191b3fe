use Rattle.std.proofs.Common.{◌≡◌, subst, rules}
use Rattle.ref_index.specs.inner.Index.{IsIndexOf}
use Rattle.ref_index.specs.inner.NormalUris.{IsNormalUri}
use Rattle.ref_index.proofs.NormalUris.{normal_meaning, against_itself}
use Rattle.ref_index.proofs.index.Index.identified.Goals as goal

pub returns-then-eq-clause-itself : goal.returns-then-eq-clause-itself
returns-then-eq-clause-itself c = λ base there.
    let layer = c.args.self.now in
    let uri = c.args.uri.now in
    let is = subst (λ l. IsIndexOf l c.self.inside.entries.items c.self.inside.by_uri c.self.inside.by_name c.self.inside.by_pair c.self.inside.is_normal) c.self.view_is c.self.invariant in
    let entry = c.in_ok-entry.entry.now in
    let (r, found, at) = c.in_ok-entry.ensures.value in
    let same : entry.base.value ≡ uri = search rules in
    let all = is.normal (search rules) in
    against_itself base uri there (subst IsNormalUri same (normal_meaning layer uri r all found entry.base.value at.base))
