use Rattle.std.proofs.Common.{◌∙◌, ap, subst, map, bytes_eq}
use Rattle.std.specs.List.{IsDistinct}
use Rattle.std.specs.Map.{keys_of}
use Rattle.referencing.specs.Builder.{pending_under}
use Rattle.referencing.proofs.Entries.{entries_put}
use Rattle.referencing.proofs.builder.put.Goals as goal

pub returns-clause-ok : goal.returns-clause-ok
returns-clause-ok c =
    let is = c.in_ok-insert.ensures.entries in
    ap (map pending_under) is ∙ entries_put c.args.pending.now.entries c.args.uri c.args.resource (subst (λ es. IsDistinct bytes_eq (keys_of es)) is c.insert.ensures.unique)
