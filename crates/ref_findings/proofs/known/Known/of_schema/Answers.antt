use Rattle.std.proofs.Common.{◌≡◌, true, false, not, sym, subst, IfOk, rules}
use Rattle.ref_draft.specs.Keywords.{is_unknown}
use Rattle.ref_draft.specs.Schema.{from_schema_uri}
use Rattle.ref_findings.specs.inner.Meanings.{IsMaybe}
use Rattle.ref_findings.specs.inner.Seen.{known_in}
use Rattle.ref_findings.proofs.Dialects.{of_draft, of_none, not_true, not_false}
use Rattle.ref_findings.proofs.known.Known.of_schema.Goals as goal

pub returns-then-is_of_draft : goal.returns-then-is_of_draft
returns-then-is_of_draft c =
    let text = c.args.text.now in
    let drafted : not (is_unknown (from_schema_uri text)) ≡ true = search rules in
    record { value = of_draft (known_in c.args.self.now) text (not_true (is_unknown (from_schema_uri text)) drafted) }

pub returns : goal.returns
returns c =
    let text = c.args.text.now in
    let undrafted : not (is_unknown (from_schema_uri text)) ≡ false = search rules in
    record { value = subst (λ o. IfOk c.of_dialect.result (IsMaybe o)) (sym (of_none (known_in c.args.self.now) text (not_false (is_unknown (from_schema_uri text)) undrafted))) c.of_dialect.ensures }
