use Rattle.std.proofs.Common.{rules}
use Rattle.ref_index.specs.inner.Index.{numbered_uri}
use Rattle.ref_index.proofs.index.set_entries.Goals as goal

pub returns : goal.returns
returns c = c.change_values.ensures.value (numbered_uri c.args.by_uri.now) (λ value value' f' k. search rules)
