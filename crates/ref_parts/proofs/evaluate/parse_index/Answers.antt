use Rattle.std.proofs.Common.{◌≡◌, ◌≢◌, eqb, get_or, length, ◌∙◌, ⊎_elim, arith}
use Rattle.std.proofs.lemmas.Bool.{both_ways, eq-eqb}
use Rattle.ref_parts.proofs.EvaluateLaws.{index_from_parse}
use Rattle.ref_parts.proofs.evaluate.parse_index.Goals as goal

pub returns : goal.returns
returns c =
    let s = c.args.s.now in
    let sign : c.starts_with.result ≡ eqb (get_or s 0 0) 43 = c.starts_with.ensures.byte (omega arith) (omega arith) (λ w o h. h) in
    let zero : c.starts_with-else-starts_with.result ≡ eqb (get_or s 0 0) 48 = c.starts_with-else-starts_with.ensures.byte (omega arith) (omega arith) (λ w o h. h) in
    let plus : get_or s 0 0 ≢ 43 = λ e. both_ways c.starts_with.result c.if-starts_with.false (sign ∙ eq-eqb (get_or s 0 0) 43 e) in
    let lone : get_or s 0 0 ≡ 48 → length s ≡ 1 = λ e.
    ⊎_elim (λ one. one.1) (λ other. absurd (both_ways c.starts_with-else-starts_with.result other (zero ∙ eq-eqb (get_or s 0 0) 48 e))) c.if-s-ne1.either in
    record { value = c.ok.ensures.value ∙ index_from_parse s c.parse.result c.parse.ensures.value.0 plus lone }
