use Rattle.std.proofs.Common.{◌≡◌, ◌++◌, ◌+◌, ◌/◌, ◌*◌, List, ℕ, length, drop, sym, ap, ◌∙◌, Some}
use Rattle.std.specs.List.{concat}
use Rattle.std.specs.Simd.{first_chunks}
use Rattle.ref_parts.specs.Pointer.{is_escaped, first_escape}
use Rattle.ref_parts.proofs.ScanLaws.{concat_chunks, length_chunks, some_in_front, some_after, none_at_all}
use Rattle.ref_parts.proofs.escape.first_escape.Goals as goal

-- words and the rest make the text
whole : (bytes rest : List ℕ) (words : List (List ℕ)) → words ≡ first_chunks 8 (length bytes / 8) bytes → rest ≡ drop (length bytes / 8 * 8) bytes → concat words ++ rest ≡ bytes
whole bytes rest words front back =
    ap (λ w. concat w ++ rest) front ∙ ap (λ l. concat (first_chunks 8 (length bytes / 8) bytes) ++ l) back ∙ concat_chunks (length bytes / 8) bytes

pub returns-in-Some : goal.returns-in-Some
returns-in-Some c =
    let front = c.as_chunks.ensures.front in
    let back = c.as_chunks.ensures.back in
    record {
      value = some_in_front is_escaped (concat c.as_chunks.result.0.now) c.as_chunks.result.1.now c.in-Some.place (sym c.in-Some.ensures)
          ∙ ap first_escape (whole c.args.bytes.now c.as_chunks.result.1.now c.as_chunks.result.0.now front back);
    }

pub returns-in-Some-first_in_rest : goal.returns-in-Some-first_in_rest
returns-in-Some-first_in_rest c =
    let words = c.as_chunks.result.0.now in
    let rest = c.as_chunks.result.1.now in
    let place = c.in-Some-first_in_rest.place in
    let long : length words * 8 ≡ length (concat words) = sym (length_chunks c.args.bytes.now words c.as_chunks.ensures.front) in
    record {
      value = ap (λ n. Some (n + place)) long
          ∙ some_after is_escaped (concat words) rest place (sym c.in-None.ensures) (sym c.in-Some-first_in_rest.ensures)
          ∙ ap first_escape (whole c.args.bytes.now rest words c.as_chunks.ensures.front c.as_chunks.ensures.back);
    }

pub returns-in-None-first_in_rest : goal.returns-in-None-first_in_rest
returns-in-None-first_in_rest c =
    let words = c.as_chunks.result.0.now in
    let rest = c.as_chunks.result.1.now in
    record {
      value = none_at_all is_escaped (concat words) rest (sym c.in-None.ensures) (sym c.in-None-first_in_rest.ensures)
          ∙ ap first_escape (whole c.args.bytes.now rest words c.as_chunks.ensures.front c.as_chunks.ensures.back);
    }
