use Rattle.std.proofs.Common.{◌≡◌, OnOk, subst, rules}
use Rattle.ref_definitions.specs.Resources.{resource_of}
use Rattle.ref_definitions.specs.Anchors.{named_at, named_under}
use Rattle.ref_index.specs.Spots.{with_number}
use Rattle.ref_index.specs.inner.Found.{Holds, with_resources, with_names}
use Rattle.ref_index.proofs.Holding.{number_kept}
use Rattle.ref_index.proofs.walk.add_by_base.Goals as goal

pub returns : goal.returns
returns c = λ layer held p number holds is tag named based.
    let text : named_under c.as_str.result.now p ≡ named_at p = search rules in
    let first = c.in_ok-add_identified.ensures.added layer held p number holds is named based in
    let there = number_kept layer _ _ number c.args.entry p c.in_ok-add_identified.ensures.entries is in
    subst (λ l. OnOk c.add_names.result (Holds layer c.add_names.new.self (with_names (with_resources held (with_number number (resource_of p))) (with_number number l)))) text
    (c.add_names.ensures.added layer (with_resources held (with_number number (resource_of p))) p number first there tag)
