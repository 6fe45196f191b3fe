use Rattle.std.proofs.Common.{◌≡◌, ◌∙◌, ap, sym}
use Rattle.serde_json.specs.View.{view}
use Rattle.ref_draft.specs.Children.{is_object}
use Rattle.ref_draft.specs.ScanSteps.{scan}
use Rattle.ref_draft.proofs.Scanning.{scan_accepts}
use Rattle.ref_draft.proofs.draft.Draft.rebases.Goals as goal

pub returns : goal.returns
returns c =
    let is : c.accepts.result ≡ scan c.args.self (is_object (view c.args.contents.now)) c.args.segments.now = c.accepts.ensures ∙ ap (λ b. scan c.args.self b c.args.segments.now) c.is_object.ensures in
    let both = scan_accepts c.args.self (view c.args.contents.now) c.args.segments.now in
    record { accepted = (λ h. both.0 (sym is ∙ h), λ h. is ∙ both.1 h) }
