use Rattle.std.proofs.Common.{◌∷◌, [], map, take, ap, sym, ◌∙◌, arith}
use Rattle.ref_bundle.specs.Bundle.{with_all, member_of, definitions_of}
use Rattle.ref_bundle.specs.inner.Seen.{part_document, numbered_part}
use Rattle.ref_bundle.specs.declared.embedding.Part.{Part}
use Rattle.std.proofs.Common.{List, ℕ}
use Rattle.serde_json.specs.Data.{Data}
use Rattle.ref_bundle.proofs.Lists.{taken_more, taken_all}
use Rattle.ref_bundle.proofs.Trees.{with_more}
use Rattle.ref_bundle.proofs.embedding.definitions_with.Goals as goal

pub loop-part-preserved : goal.loop-part-preserved
loop-part-preserved c =
    let l = c.loop-part in
    let part = c.part-item.result in
    let f : Part → List ℕ × Data = λ p. member_of c.args.top.now.draft (numbered_part p) in
    let before = definitions_of (part_document c.args.top.now) in
    c.in_ok-put.ensures
    ∙ ap (with_all (f part ∷ [])) l.invariant
    ∙ sym (with_more (map f (take l.part-index c.args.parts.now)) (f part) before)
    ∙ ap (λ es. with_all es before) (sym (taken_more f c.args.parts.now l.part-index part c.loop-part-test.true c.part-item.is))

pub returns : goal.returns
returns c =
    let l = c.loop-part in
    let f : Part → List ℕ × Data = λ p. member_of c.args.top.now.draft (numbered_part p) in
    l.invariant ∙ ap (λ es. with_all es (definitions_of (part_document c.args.top.now))) (taken_all f c.args.parts.now l.part-index (omega arith))
