use Rattle.std.proofs.Common.{flat_map, map, take, subst, sym, arith}
use Rattle.std.specs.List.{AllZip, enumerate_from}
use Rattle.ref_findings.specs.Findings.{whole_findings}
use Rattle.ref_findings.specs.Entries.{source_of, IsFindingOf}
use Rattle.ref_findings.proofs.Lists.{joined_step, joined_end}
use Rattle.ref_findings.proofs.list.of_sources.Goals as goal

pub loop-number-preserved : goal.loop-number-preserved
loop-number-preserved c =
    let l = c.loop-number in
    let s = c.index-sources-number.result in
    let before = flat_map whole_findings (enumerate_from 0 (map source_of (take l.number c.args.sources.now))) in
    subst (AllZip IsFindingOf c.add_source.new.list.items) (sym (joined_step whole_findings source_of c.args.sources.now l.number s c.loop-number-test.true c.index-sources-number.is))
    (c.in_ok-add_source.ensures before l.invariant)

pub returns : goal.returns
returns c =
    let l = c.loop-number in
    subst (AllZip IsFindingOf l.list.items) (joined_end whole_findings source_of c.args.sources.now l.number (omega arith)) l.invariant
