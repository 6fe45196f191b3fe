use Rattle.std.proofs.Common.{ap, sym, ◌∙◌, ◌&&◌, eqb}
use Rattle.std.specs.List.{ends_with}
use Rattle.std.proofs.lemmas.Str.Pattern.{ends_text}
use Rattle.ref_uri.proofs.uri.is_fragment_at_end.Goals as goal

pub returns : goal.returns
returns c =
    let ends = ends_text c.ends_with.result c.args.text.now c.args.base.now c.ends_with.ensures.cases in
    ends ∙ ap (λ b. b && ends_with eqb c.args.base.now c.args.text.now) (sym c.if-not-begins_with_hash.false ∙ c.begins_with_hash.ensures)
