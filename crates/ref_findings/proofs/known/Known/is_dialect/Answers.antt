use Rattle.std.proofs.Common.{◌∙◌, ◌||◌, ap}
use Rattle.ref_findings.specs.Findings.{is_among, is_meta_schema}
use Rattle.ref_findings.specs.inner.Seen.{known_in}
use Rattle.ref_findings.proofs.known.Known.is_dialect.Goals as goal

pub returns : goal.returns
returns c =
    let uri = c.args.uri.now in
    let k = known_in c.args.self.now in
    let other = c.either-other.ensures ∙ ap (λ b. b || c.has_resource-there.result) c.is_unread-unread.ensures ∙ ap (λ b. is_among uri k.unread || b) c.has_resource-there.ensures.value in
    c.either.ensures ∙ ap (λ b. b || c.either-other.result) c.is_meta_schema-of_draft.ensures ∙ ap (λ b. is_meta_schema uri || b) other
