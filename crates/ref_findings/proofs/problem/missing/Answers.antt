use Rattle.std.proofs.Common.{◌≡◌, ◌==◌, true, false, length, refl, rules}
use Rattle.ref_uri.specs.Targets.{fragment_part}
use Rattle.ref_findings.specs.Findings.{MissingDocument, Unchecked, is_meta_schema}
use Rattle.ref_findings.proofs.Missing.{missing_document, unchecked, whole}
use Rattle.ref_findings.proofs.problem.missing.Goals as goal

pub returns-then-not-is_meta_schema : goal.returns-then-not-is_meta_schema
returns-then-not-is_meta_schema c =
    let other : is_meta_schema c.args.uri.value ≡ false = search rules in
    (MissingDocument c.args.uri.value, missing_document c.args.uri.value c.args.reference.now other, refl)

pub returns-then-is_empty : goal.returns-then-is_empty
returns-then-is_empty c =
    let known : is_meta_schema c.args.uri.value ≡ true = search rules in
    let empty : (length (fragment_part c.args.reference.now) == 0) ≡ true = search rules in
    whole c.args.uri.value c.args.reference.now known empty

pub returns : goal.returns
returns c =
    let known : is_meta_schema c.args.uri.value ≡ true = search rules in
    let empty : (length (fragment_part c.args.reference.now) == 0) ≡ false = search rules in
    (Unchecked c.args.uri.value, unchecked c.args.uri.value c.args.reference.now known empty, refl)
