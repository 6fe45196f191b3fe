use Rattle.std.proofs.Common.{◌≡◌, ◌++◌, None, length, get_or, take, string_bytes, string_len, ap, sym, ◌∙◌, arith, ⊎_elim}
use Rattle.std.proofs.lemmas.Str.{IsCharBoundary-before_ascii, IsCharBoundary-after_ascii}
use Rattle.std.proofs.lemmas.List.{take-append-le}
use Rattle.std.proofs.lemmas.Result.{on_err_weaker}
use Rattle.ref_parts.specs.Pointer.{escape, escaped_byte, first_escape}
use Rattle.ref_parts.proofs.EscapeLaws.{CutsAt-found, escape_none, escape_turn, length-le-escape, length_token, length_turn, below_ascii, on_err, on_ok_pushed}
use Rattle.ref_parts.proofs.escape.push_escaped.Goals as goal
use Rattle.ref_parts.proofs.escape.push_escaped.Goals.{then-as_bytes-index-eq126, else-as_bytes-index-eq126}

pub returns-in_err-reserve-clause-full : goal.returns-in_err-reserve-clause-full
returns-in_err-reserve-clause-full c =
    on_err c.from_residual.result (omega (arith, c.in_err-reserve.ensures.full, length-le-escape c.args.value.now))

pub split_at-requires : goal.split_at-requires
split_at-requires c =
    let rest = c.runs.rest.now in
    let cut = CutsAt-found rest _ _ c.in-Some.index c.as_bytes.ensures.value c.first_escape.ensures.value c.in-Some.is in
    IsCharBoundary-before_ascii rest c.in-Some.index cut.within (below_ascii rest c.in-Some.index cut)

pub returns-in_err-push_str-clause-full : goal.returns-in_err-push_str-clause-full
returns-in_err-push_str-clause-full c =
    let rest = c.runs.rest.now in
    let cut = CutsAt-found rest _ _ c.in-Some.index c.as_bytes.ensures.value c.first_escape.ensures.value c.in-Some.is in
    on_err c.from_residual-in_err-push_str.result (omega (arith, c.in_err-push_str.ensures.full, c.split_at.ensures.front_len, length_turn rest c.in-Some.index cut, c.runs.invariant.len, c.runs.invariant.capacity))

pub returns-in_err-push_str-2-clause-full : goal.returns-in_err-push_str-2-clause-full
returns-in_err-push_str-2-clause-full c =
    let rest = c.runs.rest.now in
    let cut = CutsAt-found rest _ _ c.in-Some.index c.as_bytes.ensures.value c.first_escape.ensures.value c.in-Some.is in
    let token : length c.if-as_bytes-index-eq126.token.now ≡ 2 =
    elim c.if-as_bytes-index-eq126.branch [ then-as_bytes-index-eq126 w ↦ ap (λ t. length t.now) w.token-is | else-as_bytes-index-eq126 w ↦ ap (λ t. length t.now) w.token-is ] in
    on_err c.from_residual-in_err-push_str-2.result
    (omega (arith, token, c.in_err-push_str-2.ensures.full, c.in_ok-push_str.ensures.len, c.in_ok-push_str.ensures.capacity, c.split_at.ensures.front_len, length_turn rest c.in-Some.index cut, c.runs.invariant.len, c.runs.invariant.capacity))

pub range_from-rest-requires : goal.range_from-rest-requires
range_from-rest-requires c =
    let rest = c.runs.rest.now in
    let cut = CutsAt-found rest _ _ c.in-Some.index c.as_bytes.ensures.value c.first_escape.ensures.value c.in-Some.is in
    λ _. IsCharBoundary-after_ascii rest c.in-Some.index c.runs.invariant.utf8 cut.within (below_ascii rest c.in-Some.index cut)

pub runs-preserved : goal.runs-preserved
runs-preserved c =
    let rest = c.runs.rest.now in
    let i = c.in-Some.index in
    let cut = CutsAt-found rest _ _ i c.as_bytes.ensures.value c.first_escape.ensures.value c.in-Some.is in
    let buffer = string_bytes c.runs.buffer in
    let token = c.if-as_bytes-index-eq126.token.now in
    let here : get_or c.as_bytes-in-Some.result.now i 0 ≡ get_or rest i 0 = ap (λ x. get_or x i 0) c.as_bytes-in-Some.ensures.value in
    let is_token : token ≡ escaped_byte (get_or rest i 0) =
    elim c.if-as_bytes-index-eq126.branch [
      | then-as_bytes-index-eq126 w ↦ ap (λ t. t.now) w.token-is ∙ sym (ap escaped_byte (sym here ∙ w.if-as_bytes-index-eq126.true))
      | else-as_bytes-index-eq126 w ↦ ap (λ t. t.now) w.token-is ∙ sym (ap escaped_byte (⊎_elim (λ tilde. absurd (w.if-as_bytes-index-eq126.false (here ∙ tilde))) (λ slash. slash) cut.byte))
    ] in
    let run = c.in_ok-push_str.ensures.bytes ∙ ap (λ x. buffer ++ x) c.split_at.ensures.front in
    let bytes = c.in_ok-push_str-2.ensures.bytes ∙ ap (λ x. x ++ token) run in
    let left = ap escape c.range_from-rest.ensures.value in
    let n = string_len c.args.buffer.now in
    record {
      text = ap (λ x. x ++ escape c.range_from-rest.result.now) bytes ∙ ap (λ x. ((buffer ++ take i rest) ++ token) ++ x) left ∙ escape_turn buffer rest i token cut is_token ∙ c.runs.invariant.text;
      len = omega (arith, ap length is_token, length_turn rest i cut, ap length left, c.runs.invariant.len, c.split_at.ensures.front_len, c.in_ok-push_str.ensures.len, c.in_ok-push_str-2.ensures.len, length_token rest i cut);
      grown = omega (arith, c.runs.invariant.grown, c.in_ok-push_str.ensures.len, c.in_ok-push_str-2.ensures.len);
      front = ap (take n) c.in_ok-push_str-2.ensures.bytes ∙ take-append-le n (string_bytes c.push_str.new.self) token (omega (arith, c.push_str.new.self.bytes.ok.0, c.runs.invariant.grown, c.in_ok-push_str.ensures.len)) ∙ ap (take n) c.in_ok-push_str.ensures.bytes ∙ take-append-le n buffer _ (omega (arith, c.runs.buffer.bytes.ok.0, c.runs.invariant.grown)) ∙ c.runs.invariant.front;
      capacity = omega (arith, c.runs.invariant.capacity, c.in_ok-push_str.ensures.capacity, c.in_ok-push_str-2.ensures.capacity);
      utf8 = c.range_from-rest.utf8;
    }

pub returns-clause-ok : goal.returns-clause-ok
returns-clause-ok c =
    let rest = c.runs.rest.now in
    let none : first_escape rest ≡ None = ap first_escape (sym c.as_bytes.ensures.value) ∙ sym c.first_escape.ensures.value ∙ c.in_default.is in
    on_ok_pushed c.push_str-2.result _ _ _ _ c.push_str-2.ensures.bytes (ap (λ x. string_bytes c.runs.buffer ++ x) (sym (escape_none rest none)) ∙ c.runs.invariant.text)

pub returns-clause-full : goal.returns-clause-full
returns-clause-full c =
    on_err_weaker c.push_str-2.result (λ full. omega (arith, full, length-le-escape c.runs.rest.now, c.runs.invariant.len, c.runs.invariant.capacity)) c.push_str-2.ensures.full
