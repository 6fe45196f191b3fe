use Rattle.std.proofs.Common.{◌∷◌, ◌++◌, take, ap, ◌∙◌, sym, arith}
use Rattle.std.proofs.lemmas.Str.{IsCharBoundary-before_ascii, IsCharBoundary-after_ascii}
use Rattle.ref_resolver.proofs.Cutting.{cut_at_one}
use Rattle.ref_resolver.proofs.pointed.cut_at.Goals as goal

pub split_at-requires : goal.split_at-requires
split_at-requires c = IsCharBoundary-before_ascii c.args.text.now c.args.place c.requires.within (omega (arith, c.requires.slash))

pub range_from-requires : goal.range_from-requires
range_from-requires c = λ _. IsCharBoundary-after_ascii c.args.text.now c.args.place c.utf8.text c.requires.within (omega (arith, c.requires.slash))

pub returns-clause-cut : goal.returns-clause-cut
returns-clause-cut c =
    let text = c.args.text.now in
    let parts = ap (λ front. front ++ (47 ∷ c.range_from.result.now)) c.split_at.ensures.front ∙ ap (λ back. take c.args.place text ++ (47 ∷ back)) c.range_from.ensures.value in
    cut_at_one text c.args.place c.requires.within c.requires.slash ∙ sym parts
