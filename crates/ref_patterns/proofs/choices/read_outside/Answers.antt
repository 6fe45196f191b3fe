use Rattle.std.proofs.Common.{◌≡◌, ◌∷◌, ◌++◌, map, ap, sym, ◌∙◌, rules}
use Rattle.std.proofs.lemmas.Bool.{ne_eqb}
use Rattle.ref_patterns.specs.Choices as spec
use Rattle.ref_patterns.proofs.Choosing.{longer, literal}
use Rattle.ref_patterns.proofs.choices.read_outside.Goals as goal

pub returns-clause-goes_on : goal.returns-clause-goes_on
returns-clause-goes_on c = λ is s.
    let r = c.args.read.now in
    let b = c.args.byte in
    let texts = spec.lists_of r.texts in
    ap (λ o. spec.texts_with o record { texts = r.texts; before = c.push.new.self; is_open = r.is_open; choices = r.choices; last = r.last } s) c.requires
    ∙ ap (λ l. spec.outside (map (λ t. t ++ l) texts) s) c.in_ok-push.ensures.items
    ∙ ap (λ l. spec.outside l s) (longer texts r.before.items b)
    ∙ literal (spec.texts_before r) b s (ne_eqb b 123 c.if-byte-eq123.false) (ne_eqb b 125 c.if-byte-eq125.false)
    ∙ sym (ap (λ o. spec.texts_with o r (b ∷ s)) c.requires)
