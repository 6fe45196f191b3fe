use Rattle.std.proofs.Common.{◌≡◌, ◌++◌, Some, OnOk, codes, subst, sym}
use Rattle.std.specs.List.{AllZip}
use Rattle.ref_draft.specs.Keywords.{id_keyword}
use Rattle.ref_definitions.specs.Wants.{reference_at, schema_at}
use Rattle.ref_findings.specs.Places.{nearest_base}
use Rattle.ref_findings.specs.Findings.{finding_at}
use Rattle.ref_findings.specs.Entries.{IsFindingOf}
use Rattle.ref_findings.specs.Unmet.{refused_problem, unmet_problem}
use Rattle.ref_findings.specs.inner.Nulled.{is_met}
use Rattle.ref_findings.specs.inner.Seen.{site_of}
use Rattle.ref_findings.proofs.Listed.{three}
use Rattle.ref_findings.proofs.unready.add_place.Goals as goal

pub returns : goal.returns
returns c = λ uris met fs zip.
    let s = site_of c.args.site.now in
    let first = refused_problem (Some s.1.base) in
    let second = unmet_problem (is_met uris) (reference_at (nearest_base s.1) s.1.value) in
    let third = refused_problem (schema_at s.1.value) in
    let one = finding_at s (Some (id_keyword s.1.draft)) first in
    let two = finding_at s (Some (codes "$ref")) second in
    let last = finding_at s (Some (codes "$schema")) third in
    let added = subst (λ k. AllZip IsFindingOf c.add.new.list.items (fs ++ finding_at s (Some k) first)) c.of_identifier-keyword.ensures.value (c.in_ok-add.ensures first c.of_identifier-identifier.ensures fs zip) in
    subst (λ l. OnOk c.add-3.result (AllZip IsFindingOf c.add-3.new.list.items l)) (three fs one two last)
    (c.add-3.ensures third c.of_schema-schema.ensures ((fs ++ one) ++ two) (c.in_ok-add-2.ensures second (c.of_reference-reference.ensures uris met) (fs ++ one) added))
