use Rattle.std.proofs.Common.{◌≡◌, ℕ, ◌+◌, ◌-◌, ◌<◌, List, [], get_or, drop, length, take, ◌∙◌, subst, arith, length-drop}
use Rattle.std.specs.List.{concat}
use Rattle.std.proofs.lemmas.List.{get_or-take, get_or-drop, length-take}
use Rattle.ref_parts.specs.inner.Words.{IsPlain, MarksFirst}
use Rattle.ref_parts.specs.Pointer.{is_escaped}
use Rattle.ref_parts.proofs.ScanLaws.{plain_more, plain_word, found_in_words}
use Rattle.ref_parts.proofs.scan.first_in_words.Goals as goal

-- the word that the loop is at
word_at : (words : List (List ℕ)) (passed i : ℕ) → i < length (take (length words - passed) (drop passed words)) → (get_or (take (length words - passed) (drop passed words)) i [] ≡ get_or words (passed + i) []) × (passed + i < length words)
word_at words passed i within =
    let below : i < length words - passed = omega (arith, within, length-take (length words - passed) (drop passed words), length-drop passed words) in
    (get_or-take (length words - passed) (drop passed words) i [] below ∙ get_or-drop passed words i [], omega arith)

pub loop-index-preserved : goal.loop-index-preserved
loop-index-preserved c =
    let words = c.args.words.now in
    let passed = c.words_before_block-passed.result in
    let i = c.loop-index.index in
    let here = word_at words passed i c.loop-index-test.true in
    let marked = subst (λ w. MarksFirst is_escaped w c.marks-marks.result) here.0 c.marks-marks.ensures in
    subst (λ n. IsPlain (concat (take n words))) (omega arith) (plain_more words (passed + i) here.1 c.loop-index.invariant (plain_word _ _ marked c.if-marks-ne0.false))

pub returns-then-marks-ne0 : goal.returns-then-marks-ne0
returns-then-marks-ne0 c =
    let words = c.args.words.now in
    let passed = c.words_before_block-passed.result in
    let i = c.loop-index.index in
    let here = word_at words passed i c.loop-index-test.true in
    let marked = subst (λ w. MarksFirst is_escaped w c.marks-marks.result) here.0 c.marks-marks.ensures in
    found_in_words words (passed + i) c.marks-marks.result c.told-words here.1 c.loop-index.invariant marked (omega (arith, c.if-marks-ne0.true))
