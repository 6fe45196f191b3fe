use Rattle.std.proofs.Common.{◌≡◌, List, ℕ, ◌-◌, ◌<◌, ◌≤◌, drop, take, length, min, refl, sym, ap, ◌∙◌, arith}
use Rattle.std.specs.Int.{from_be_bytes, w64}
use Rattle.std.proofs.lemmas.List.{take_all, drop_min, drop-drop, length-drop}
use Rattle.ref_parts.specs.inner.SortedEntries.{big_endian}
use Rattle.ref_parts.proofs.SlotLaws.{number_of_filled, number_of_eight}
use Rattle.ref_parts.proofs.table.word_at.Goals as goal

-- what is after the place, as it is cut out
abbrev rest : List ℕ → ℕ → List ℕ
rest bytes cut = take (length bytes - cut) (drop cut bytes)

all_of_rest : (bytes : List ℕ) (cut : ℕ) → rest bytes cut ≡ drop cut bytes
all_of_rest bytes cut = take_all _ (drop cut bytes) (omega (arith, length-drop cut bytes))

behind : (bytes text : List ℕ) (from cut : ℕ) → cut ≡ min from (length bytes) → bytes ≡ text → rest bytes cut ≡ drop from text
behind bytes text from cut is same =
    all_of_rest bytes cut ∙ ap (λ n. drop n bytes) is ∙ drop_min from bytes ∙ ap (drop from) same

-- the last bytes of a text are the last of its last eight
last_of_eight : (bytes : List ℕ) (cut : ℕ) → cut ≤ length bytes → length (rest bytes cut) < 8 → 8 ≤ length bytes → drop (8 - length (rest bytes cut)) (drop (length bytes - 8) bytes) ≡ rest bytes cut
last_of_eight bytes cut within few some =
    let left : length (rest bytes cut) ≡ length bytes - cut = ap length (all_of_rest bytes cut) ∙ length-drop cut bytes in
    drop-drop (8 - length (rest bytes cut)) (length bytes - 8) bytes ∙ ap (λ n. drop n bytes) (omega (arith, left, few, within, some)) ∙ sym (all_of_rest bytes cut)

pub returns-in-Some : goal.returns-in-Some
returns-in-Some c =
    c.from_be_bytes.ensures ∙ ap (from_be_bytes w64) c.in-Some.ensures.cases.0 ∙ number_of_eight _ (omega (arith, c.in-Some.ensures.cases.2))
    ∙ ap (big_endian 8) (behind _ _ c.args.from _ c.min.ensures refl)

pub returns-in-Some-split_last_chunk : goal.returns-in-Some-split_last_chunk
returns-in-Some-split_last_chunk c =
    let bytes : List ℕ = c.args.bytes.now in
    c.last_bytes.ensures ∙ ap (λ l. big_endian 8 (drop (8 - length (rest bytes c.min.result)) l)) c.in-Some-split_last_chunk.ensures.cases.1
    ∙ ap (big_endian 8) (last_of_eight bytes c.min.result (omega (arith, c.min.ensures)) c.in_default.ensures.cases (omega (arith, c.in-Some-split_last_chunk.ensures.cases.2)))
    ∙ ap (big_endian 8) (behind _ _ c.args.from _ c.min.ensures refl)

pub returns : goal.returns
returns c =
    c.from_be_bytes-2.ensures ∙ ap (from_be_bytes w64) c.first_eight.ensures ∙ number_of_filled _ ∙ ap (big_endian 8) (behind _ _ c.args.from _ c.min.ensures refl)
