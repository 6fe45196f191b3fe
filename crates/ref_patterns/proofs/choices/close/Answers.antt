use Rattle.std.proofs.Common.{◌≡◌, ◌++◌, map, ap, sym, ◌∙◌, true, None, Bool, if◌then◌else◌, length, rules, arith}
use Rattle.ref_patterns.specs.Choices as spec
use Rattle.ref_patterns.proofs.Choosing.{few_of, with_nothing}
use Rattle.ref_patterns.proofs.choices.close.Goals as goal

pub returns-clause-goes_on : goal.returns-clause-goes_on
returns-clause-goes_on c = λ is s.
    let r = c.args.read.now in
    let texts = spec.texts_before r in
    let choices = spec.lists_of r.choices in
    let all = spec.lists_of c.in_ok-read.field-0 in
    let sized : c.args.read.now.texts.len ≡ length c.args.read.now.texts.items = search rules in
    let sized-2 : c.args.read.now.choices.len ≡ length c.args.read.now.choices.items = search rules in
    let few : spec.is_few texts choices ≡ true = few_of r.texts.items r.choices.items r.before.items c.len.result c.len-2.result c.saturating_mul.result (c.len.ensures ∙ sized) (c.len-2.ensures ∙ sized-2) c.saturating_mul.ensures (omega arith) in
    let made : all ≡ spec.with_choices texts choices = search rules in
    ap (λ b. spec.outside (map (λ t. t ++ b) all) s) c.new.ensures.items
    ∙ ap (λ l. spec.outside l s) (with_nothing all ∙ made)
    ∙ sym (ap (λ (o : Bool). if o then spec.outside (spec.with_choices texts choices) s else None) few)
