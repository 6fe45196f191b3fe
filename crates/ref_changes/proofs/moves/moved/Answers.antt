use Rattle.std.proofs.Common.{◌≡◌, ◌∙◌, map, decimal, option_map, ap, sym, rules}
use Rattle.ref_paths.specs.Segment.{part_of}
use Rattle.ref_parts.specs.Pointer.{pointer_text}
use Rattle.ref_parts.specs.Table.{last_value}
use Rattle.ref_changes.specs.Views.{address_view}
use Rattle.ref_changes.proofs.Tables.{last_seen}
use Rattle.ref_changes.proofs.moves.moved.Goals as goal

pub returns : goal.returns
returns c = λ document number.
    let table = c.args.table.now in
    let pointer = pointer_text (map part_of c.args.path.now) in
    let text : c.as_str.result.now ≡ pointer = search rules in
    let found : c.copied.result ≡ last_value c.as_str.result.now c.args.number.now table = search rules in
    ap (option_map address_view) (found ∙ ap (λ p. last_value p c.args.number.now table) text ∙ ap (λ n. last_value pointer n table) number)
    ∙ sym (last_seen address_view pointer (decimal document) table)
