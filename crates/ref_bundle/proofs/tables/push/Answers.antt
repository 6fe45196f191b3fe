use Rattle.std.proofs.Common.{◌≡◌, ◌++◌, ◌∷◌, [], map, ap, ◌∙◌, rules}
use Rattle.std.specs.List.{AllZip}
use Rattle.ref_paths.specs.Segment.{part_of}
use Rattle.ref_bundle.specs.inner.Tables.{table_of}
use Rattle.ref_bundle.proofs.Bearing.{one_entered, copied_parts}
use Rattle.ref_bundle.proofs.tables.push.Goals as goal

pub returns : goal.returns
returns c =
    let path = c.in_ok-path.path in
    let copies : AllZip (λ s copy. part_of copy ≡ part_of s) c.args.path.now path.items = search rules in
    let added : c.push.new.self ≡ c.args.entries.now ++ (c.args.uri.now, [], record { document = c.args.document; path = path }) ∷ [] = search rules in
    ap table_of added ∙ one_entered c.args.entries.now c.args.uri.now _ (c.args.document, map part_of c.args.path.now) (ap (λ p. (c.args.document, p)) (copied_parts c.args.path.now path.items copies))
