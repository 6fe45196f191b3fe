use Rattle.std.proofs.Common.{◌≡◌, ◌∙◌, ◌||◌, ap, sym, nat_eq, bytes_eq, false, rules}
use Rattle.std.specs.List.{starts_with}
use Rattle.std.proofs.lemmas.Str.Pattern.{starts_text}
use Rattle.ref_descriptions.proofs.version.is_version.Goals as goal

pub returns-else-eq : goal.returns-else-eq
returns-else-eq c =
    let apart : bytes_eq c.args.text.now c.args.name.now ≡ false = search rules in
    starts_text c.starts_with.result c.args.beginning.now c.args.text.now c.starts_with.ensures.cases
    ∙ sym (ap (λ b. b || starts_with nat_eq c.args.text.now c.args.beginning.now) apart)
