use Rattle.std.proofs.Common.{sym, ap, ◌∙◌, option_map}
use Rattle.std.specs.Option.{option_to_list}
use Rattle.ref_draft.specs.Anchors.{Plain}
use Rattle.ref_draft.proofs.anchor.plain.Goals as goal

pub returns-in-Some-clause-names : goal.returns-in-Some-clause-names
returns-in-Some-clause-names c =
    let text = ap (option_map (λ t. t.now)) (sym c.in-Some.is) ∙ c.text_under.ensures in
    ap (λ t. option_to_list (option_map (λ name. (name, Plain)) t)) text

pub returns-in-None-clause-names : goal.returns-in-None-clause-names
returns-in-None-clause-names c =
    let text = ap (option_map (λ t. t.now)) (sym c.in-None.is) ∙ c.text_under.ensures in
    ap (λ t. option_to_list (option_map (λ name. (name, Plain)) t)) text
