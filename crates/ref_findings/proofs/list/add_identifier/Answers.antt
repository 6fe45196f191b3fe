use Rattle.std.proofs.Common.{◌≡◌, ◌++◌, Some, OnOk, sym, subst, rules}
use Rattle.std.specs.Prelude.{IfOk, option_and_then}
use Rattle.ref_definitions.specs.Places.{identifier_of}
use Rattle.ref_findings.specs.Findings.{by_base, finding_at, identifier_problem}
use Rattle.std.specs.List.{AllZip}
use Rattle.ref_findings.specs.Entries.{IsFindingOf}
use Rattle.ref_findings.specs.inner.Meanings.{IsMaybe}
use Rattle.ref_findings.specs.inner.Seen.{site_of, known_in}
use Rattle.ref_findings.proofs.list.add_identifier.Goals as goal

pub returns : goal.returns
returns c = λ fs zip.
    let k = known_in c.args.known.now in
    let n = c.args.number in
    let s = site_of c.args.site.now in
    let there : identifier_of s.1 ≡ Some c.in-Some.id.now = search rules in
    let said : IfOk c.of_identifier-problem.result (IsMaybe (identifier_problem k n s.1)) =
    subst (λ o. IfOk c.of_identifier-problem.result (IsMaybe (option_and_then (λ id. by_base k n s.1.base) o))) (sym there) c.of_identifier-problem.ensures.value in
    subst (λ w. OnOk c.add.result (AllZip IsFindingOf c.add.new.list.items (fs ++ finding_at s (Some w) (identifier_problem k n s.1)))) c.of_identifier-keyword.ensures.value
    (c.add.ensures (identifier_problem k n s.1) said fs zip)
