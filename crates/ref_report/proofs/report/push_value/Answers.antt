use Rattle.std.proofs.Common.{◌≡◌, ◌++◌, codes, string_bytes, append_assoc, ap, ◌∙◌}
use Rattle.serde_json.specs.View.{view}
use Rattle.serde_json.specs.Written.{compact_text}
use Rattle.ref_draft.specs.Names.{draft_name}
use Rattle.ref_report.specs.Report.{line}
use Rattle.ref_report.proofs.report.push_value.Goals as goal

pub returns : goal.returns
returns c =
    let old = string_bytes c.args.text.now in
    let value = view c.in-Some.value.now in
    let json : c.as_str.result.now ≡ compact_text value = c.as_str.ensures.value ∙ c.in_ok-json.ensures.text (rw c.in-Some.is at c.requires) in
    let first : string_bytes c.push_line-2.new.text ≡ old ++ line (codes "value " ++ compact_text value) = c.in_ok-push_line.ensures ∙ ap (λ j. old ++ line (codes "value " ++ j)) json in
    let second : string_bytes c.push_line-3.new.text ≡ string_bytes c.push_line-2.new.text ++ line (codes "draft " ++ draft_name c.in-Some.draft) = c.in_ok-push_line-2.ensures ∙ ap (λ b. string_bytes c.push_line-2.new.text ++ line (codes "draft " ++ b)) c.name.ensures.value in
    rw c.in-Some.is (second ∙ ap (λ t. t ++ line (codes "draft " ++ draft_name c.in-Some.draft)) first ∙ append_assoc old (line (codes "value " ++ compact_text value)) (line (codes "draft " ++ draft_name c.in-Some.draft)))
