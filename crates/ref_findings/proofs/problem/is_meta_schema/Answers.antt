use Rattle.std.proofs.Common.{◌∙◌, ◌||◌, ap, not, bytes_eq}
use Rattle.std.specs.List.{list_any}
use Rattle.ref_draft.specs.Keywords.{is_unknown}
use Rattle.ref_draft.specs.Schema.{trimmed_text, from_schema_uri}
use Rattle.ref_findings.specs.Findings.{is_meta_schema}
use Rattle.ref_findings.proofs.problem.is_meta_schema.Goals as goal

pub returns : goal.returns
unfolding is_meta_schema
returns c =
    let uri = c.args.uri.now in
    let listed = c.is_one_of-listed.ensures ∙ ap (list_any (λ known. bytes_eq (trimmed_text known) uri)) c.uris_are_of_all_drafts.ensures.law in
    c.either.ensures ∙ ap (λ b. b || c.is_one_of-listed.result) c.is_of_draft-of_draft.ensures ∙ ap (λ b. not (is_unknown (from_schema_uri uri)) || b) listed
