use Rattle.std.proofs.Common.{◌≡◌, rules, string_bytes}
use Rattle.ref_bundle.specs.Embedding.{base_uri, embedded_tree}
use Rattle.ref_bundle.specs.inner.Seen.{part_document}
use Rattle.ref_bundle.proofs.Trees.{inserted}
use Rattle.ref_bundle.proofs.embedding.put.Goals as goal

pub returns : goal.returns
returns c =
    let d = part_document c.args.part.now in
    let key : string_bytes c.in_ok-from_str.field-0 ≡ base_uri d = search rules in
    inserted _ c.args.map.now.entries c.in_ok-from_str.field-0 c.in_ok-tree.tree (base_uri d) (embedded_tree c.args.draft d) c.in_ok-insert.ensures.entries key c.in_ok-tree.ensures
