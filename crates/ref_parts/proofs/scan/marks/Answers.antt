use Rattle.std.proofs.Common.{◌≡◌, ℕ, ◌*◌, ◌<◌, All, map, length, bit_xor, eqb, sym, ap, ◌∙◌, arith}
use Rattle.std.proofs.lemmas.List.{length-map}
use Rattle.std.proofs.lemmas.List.Elements.{All-from_get_or}
use Rattle.ref_parts.specs.inner.Words.{number}
use Rattle.ref_parts.proofs.WordLaws.{ones, number_of_word, number-xor, xor_small, byte_first, marks_or}
use Rattle.ref_parts.proofs.scan.marks.Goals as goal

pub returns : goal.returns
returns c =
    let word = c.args.word.now in
    let small : All (λ b. b < 256) word = All-from_get_or (λ b. b < 256) word 0 (λ i less. omega (arith, c.fits-word i)) in
    let is = c.from_le_bytes-word.ensures ∙ number_of_word word c.told-word in
    let turned : (b : ℕ) → b < 256 → bit_xor c.from_le_bytes-word.result (b * ones 8) ≡ number (map (λ x. bit_xor x b) word) = λ b byte.
    ap (λ z. bit_xor z (b * ones 8)) is ∙ ap (λ n. bit_xor (number word) (b * ones n)) (sym c.told-word) ∙ number-xor b byte word small in
    let eight : (b : ℕ) → length (map (λ x. bit_xor x b) word) ≡ 8 = λ b. rw length-map c.told-word in
    marks_or (λ b. eqb b 126) (λ b. eqb b 47) word _ _
    (byte_first 126 word _ (c.zero_marks.ensures (map (λ x. bit_xor x 126) word) (eight 126) (xor_small 126 (omega arith) word small) (turned 126 (omega arith))))
    (byte_first 47 word _ (c.zero_marks-2.ensures (map (λ x. bit_xor x 47) word) (eight 47) (xor_small 47 (omega arith) word small) (turned 47 (omega arith))))
