use Rattle.std.proofs.Common.{◌≡◌, ◌∙◌, ◌++◌, [], ◌∷◌, map, take, ap, sym, rules}
use Rattle.std.proofs.lemmas.List.{map-append}
use Rattle.ref_reach.specs.Held.{held_source}
use Rattle.ref_reach.specs.Views.{source_of}
use Rattle.ref_reach.proofs.Lists.{taken_more}
use Rattle.ref_reach.proofs.documents.walked_of.Goals as goal

pub loop-source-preserved : goal.loop-source-preserved
loop-source-preserved c =
    let l = c.loop-source in
    let s = c.source-item.result in
    let f = held_source c.args.draft in
    let more : c.in_ok-walked.walked ≡ l.walked ++ f (source_of s) ∷ [] = search rules in
    more ∙ ap (λ xs. xs ++ f (source_of s) ∷ []) l.invariant
    ∙ sym (map-append f (map source_of (take l.source-index c.args.sources.now)) (source_of s ∷ []))
    ∙ ap (map f) (ap (λ x. map source_of (take l.source-index c.args.sources.now) ++ source_of x ∷ []) c.source-item.is ∙ sym (taken_more source_of c.args.sources.now l.source-index s c.loop-source-test.true))
