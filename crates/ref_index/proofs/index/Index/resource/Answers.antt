use Rattle.std.proofs.Common.{◌≡◌, [], subst, rules}
use Rattle.ref_parts.specs.Table.{last_value}
use Rattle.ref_index.specs.inner.Index.{IsIndexOf}
use Rattle.ref_index.proofs.Looking.{resource_found}
use Rattle.ref_index.proofs.index.Index.resource.Goals as goal

pub returns : goal.returns
returns c =
    let is = subst (λ l. IsIndexOf l c.self.inside.entries.items c.self.inside.by_uri c.self.inside.by_name c.self.inside.by_pair c.self.inside.is_normal) c.self.view_is c.self.invariant in
    let number : c.copied-number.result ≡ last_value c.args.uri.now [] c.self.inside.by_uri = search rules in
    let at = rw c.as_slice.ensures.value at c.entry_at.ensures in
    let found = resource_found c.args.self.now c.self.inside.entries.items c.args.uri.now c.self.inside.by_uri c.copied-number.result c.entry_at.result is.resource number at in
    record { value = found.0; spot = found.1 }
