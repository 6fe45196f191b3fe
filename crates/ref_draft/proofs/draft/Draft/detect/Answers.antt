use Rattle.std.proofs.Common.{sym, ap, ◌∙◌, option_map}
use Rattle.std.specs.Option.{option_map_or}
use Rattle.ref_draft.specs.Schema.{from_schema_uri}
use Rattle.ref_draft.proofs.draft.Draft.detect.Goals as goal

pub returns-in-Some : goal.returns-in-Some
returns-in-Some c =
    let text = ap (option_map (λ t. t.now)) (sym c.in-Some.is) ∙ c.text_under.ensures in
    record { value = c.from_schema_uri.ensures.value ∙ ap (λ t. option_map_or from_schema_uri t c.args.self) text }
