use Rattle.std.proofs.Common.{◌≡◌, ◌++◌, ◌∙◌, flat_map, map, take, reverse, ap, sym, subst, append_assoc, arith}
use Rattle.std.specs.List.{AllZip, enumerate_from}
use Rattle.ref_findings.specs.Findings.{guesses_of}
use Rattle.ref_findings.specs.Entries.{IsFindingOf}
use Rattle.ref_findings.specs.inner.Seen.{Survey, seen_survey, survey_in, site_of}
use Rattle.ref_index.proofs.Noting.{all_at}
use Rattle.ref_findings.proofs.Lists.{joined_step, joined_end}
use Rattle.ref_findings.proofs.Guessing.{source_in}
use Rattle.ref_findings.proofs.guessed.add_all.Goals as goal

pub add_source-requires : goal.add_source-requires
add_source-requires c =
    all_at (λ (t : Survey). t ≡ survey_in c.args.referrers.now.draft t.source) seen_survey c.args.surveys.now c.loop-number.number c.index-surveys-number.result c.requires c.loop-number-test.true c.index-surveys-number.is

pub loop-number-preserved : goal.loop-number-preserved
loop-number-preserved c = λ fs zip.
    let l = c.loop-number in
    let s = c.index-surveys-number.result in
    let f = guesses_of c.args.referrers.now.draft (map site_of c.args.referrers.now.sites.now) (reverse c.args.referrers.now.table.now) in
    let before = flat_map f (enumerate_from 0 (map source_in (take l.number c.args.surveys.now))) in
    subst (AllZip IsFindingOf c.add_source.new.list.items)
    (append_assoc fs before (f (l.number, source_in s)) ∙ ap (λ y. fs ++ y) (sym (joined_step f source_in c.args.surveys.now l.number s c.loop-number-test.true c.index-surveys-number.is)))
    (c.in_ok-add_source.ensures (fs ++ before) (l.invariant fs zip))

pub returns : goal.returns
returns c = λ fs zip.
    let l = c.loop-number in
    let f = guesses_of c.args.referrers.now.draft (map site_of c.args.referrers.now.sites.now) (reverse c.args.referrers.now.table.now) in
    subst (λ es. AllZip IsFindingOf l.list.items (fs ++ es)) (joined_end f source_in c.args.surveys.now l.number (omega arith)) (l.invariant fs zip)
