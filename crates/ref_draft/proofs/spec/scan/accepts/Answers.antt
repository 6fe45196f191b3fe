use Rattle.std.proofs.Common.{map, arith}
use Rattle.std.proofs.lemmas.Grind.{common_steps}
use Rattle.std.specs.Slice.Iter.{iter_rest}
use Rattle.ref_paths.specs.Segment.{part_of}
use Rattle.ref_draft.proofs.Holdings.{scan_key}
use Rattle.ref_draft.proofs.spec.scan.accepts.Goals as goal

-- no part is after a child keyword
pub returns-then-is_none : goal.returns-then-is_none
returns-then-is_none c =
    let key = scan_key c.args.draft c.args.object c.as_str.result.now (map part_of (iter_rest c.next.new.self)) in
    grind (arith, common_steps, key)
