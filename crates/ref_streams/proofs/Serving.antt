-- Answers that are written one after another.
use Rattle.std.proofs.Common.{◌≡◌, ◌≤◌, ◌+◌, ◌-◌, ◌^◌, ℕ, Bool, true, false, List, [], ◌∷◌, ◌++◌, Option, Some, None, Result, Vec, Ok, Err, IfErr, refl, sym, ap, ◌∙◌, subst, append_assoc, append-nil, length, length-append, arith}
use Rattle.std.proofs.lemmas.Bool.{false≢true}
use Rattle.std.specs.declared.alloc.AllocError.{AllocError}
use Rattle.std.specs.declared.alloc.Global.{Global}
use Rattle.std.proofs.KnownBytes.{Consumes-nil, Consumes-trans, Appends-nil, Appends-trans}
use Rattle.std.specs.Io.KnownBytes.{Appends}
use Rattle.ref_streams.specs.Bytes.{AppendsFront}
use Rattle.ref_streams.specs.Lines.{lines, whole_lines}
use Rattle.ref_streams.specs.Serving.{Answers, AnswersLine, Serves, ServedSoFar, ServedInPart, AnsweredSoFar, GaveAtLeast}
use Rattle.ref_streams.specs.inner.Held.{Gave, IsUnfinished, GaveForLines}
use Rattle.ref_streams.specs.inner.Answering.{answer_text, Served, GotAnswer}
use Rattle.ref_streams.proofs.Cutting.{cut_lines, cut_whole, cut_length, no_lines, none_whole, not_ended}

pub err_always : {X E : Type 0} (r : Result X E) (P : E → Type 0) → ((e : E) → P e) → IfErr r P
err_always (Ok x) P all = tt
err_always (Err e) P all = all e

module _ {S : Type 0} (may_answer : S → List ℕ → S → List ℕ → Type 0) where
  -- one answer more
  pub answers_more : (s : S) (front : List (List ℕ)) (t : S) (text : List ℕ) (line : List ℕ) (next : S) (more : List ℕ)
      → Answers may_answer s front t text → AnswersLine may_answer t line next more → Answers may_answer s (front ++ line ∷ []) next (text ++ more)
  answers_more s [] t text line next more (none, same) answer =
      let whole : text ++ more ≡ more ++ [] = ap (λ ys. ys ++ more) none ∙ sym (append-nil more) in
      (next, more, [], subst (λ x. AnswersLine may_answer x line next more) same answer, (refl, refl), whole)
  answers_more s (l ∷ front) t text line next more (mid, first, rest, one, others, is) answer =
      let whole : text ++ more ≡ first ++ (rest ++ more) = ap (λ ys. ys ++ more) is ∙ append_assoc first rest more in
      (mid, first, rest ++ more, one, answers_more mid front t rest line next more others answer, whole)

  pub served_none : (s : S) (left taken : Option (List ℕ)) (held : List ℕ) (ended : Bool) → held ≡ [] → Served may_answer s s left left taken taken held ended
  served_none s left taken held ended none =
      ([], [], [], Consumes-nil left, Appends-nil taken, (refl, refl), λ rest _. ap (λ ys. lines (ys ++ rest)) (sym none), λ rest _. ap (λ ys. whole_lines (ys ++ rest)) (sym none))

  pub served_more : (s t next : S) (left left' left'' taken taken' taken'' : Option (List ℕ)) (held after : List ℕ) (ended ended' : Bool) (answer : Result (Vec ℕ Global) AllocError)
      → Served may_answer s t left left' taken taken' held ended → GotAnswer may_answer t next left' left'' (Some answer) held after ended ended'
      → Appends taken' taken'' (answer_text answer) → Served may_answer s next left left'' taken taken'' after ended'
  served_more s t next left left' left'' taken taken' taken'' held after ended ended' answer (bytes, text, front, consumes, appends, answers, are, whole) (more, consumed, (line, cut, one), stays) written =
      let step = λ (rest : List ℕ) (none : ended' ≡ true → rest ≡ []).
      let before : lines (bytes ++ (more ++ rest)) ≡ front ++ lines (held ++ (more ++ rest)) =
      are (more ++ rest) (λ e. ap (λ ys. ys ++ rest) (stays e).0 ∙ none (stays e).1) in
      let cuts : lines ((held ++ more) ++ rest) ≡ line ∷ lines (after ++ rest) = cut_lines (held ++ more) line after rest ended' cut none in
      ap lines (append_assoc bytes more rest) ∙ before ∙ ap (λ ys. front ++ lines ys) (sym (append_assoc held more rest)) ∙ ap (λ ls. front ++ ls) cuts
      ∙ sym (append_assoc front (line ∷ []) (lines (after ++ rest))) in
      let step_whole = λ (rest : List ℕ) (unended : ended' ≡ false).
      let before : whole_lines (bytes ++ (more ++ rest)) ≡ front ++ whole_lines (held ++ (more ++ rest)) =
      whole (more ++ rest) (not_ended ended (λ e. false≢true (sym unended ∙ (stays e).1))) in
      let cuts : whole_lines ((held ++ more) ++ rest) ≡ line ∷ whole_lines (after ++ rest) = cut_whole (held ++ more) line after rest ended' cut unended in
      ap whole_lines (append_assoc bytes more rest) ∙ before ∙ ap (λ ys. front ++ whole_lines ys) (sym (append_assoc held more rest)) ∙ ap (λ ls. front ++ ls) cuts
      ∙ sym (append_assoc front (line ∷ []) (whole_lines (after ++ rest))) in (
        bytes ++ more,
        text ++ answer_text answer,
        front ++ line ∷ [],
        Consumes-trans left left' left'' bytes more consumes consumed,
        Appends-trans taken taken' taken'' text (answer_text answer) appends written,
        answers_more s front t text line next (answer_text answer) answers one,
        step,
        step_whole,
      )

  pub served_all : (s t next : S) (left left' left'' taken taken' : Option (List ℕ)) (held after : List ℕ) (ended ended' : Bool)
      → Served may_answer s t left left' taken taken' held ended → GotAnswer may_answer t next left' left'' None held after ended ended'
      → Serves lines may_answer s next left left'' taken taken'
  served_all s t next left left' left'' taken taken' held after ended ended' (bytes, text, front, consumes, appends, answers, are, whole) (more, consumed, (none, empty, end, same), stays) =
      let before : lines (bytes ++ more) ≡ front ++ lines (held ++ more) = are more (λ e. (stays e).0) in
      let all : lines (bytes ++ more) ≡ front = before ∙ ap (λ ys. front ++ lines ys) none ∙ ap (λ ls. front ++ ls) no_lines ∙ append-nil front in
      let given : Answers may_answer s (lines (bytes ++ more)) next text =
      subst (λ ls. Answers may_answer s ls next text) (sym all) (subst (λ x. Answers may_answer s front x text) (sym same) answers) in
      (bytes ++ more, text, Consumes-trans left left' left'' bytes more consumes consumed, given, appends)

  -- the answers up to an error, before which more bytes may have been read
  pub served_so_far : (s t next : S) (left left' left'' taken taken' : Option (List ℕ)) (held : List ℕ) (ended : Bool)
      → Served may_answer s t left left' taken taken' held ended → Gave left' left'' ended → next ≡ t → ServedSoFar may_answer s next left left'' taken taken'
  served_so_far s t next left left' left'' taken taken' held ended (bytes, text, front, consumes, appends, answers, are, whole) (more, gave, none) same =
      (text, (bytes ++ more, front, lines (held ++ more), Consumes-trans left left' left'' bytes more consumes gave, are more none, subst (λ x. Answers may_answer s front x text) (sym same) answers), appends)

  pub answered_so_far : (s t : S) (left left' taken taken' : Option (List ℕ)) → ServedSoFar may_answer s t left left' taken taken' → AnsweredSoFar may_answer s t left left'
  answered_so_far s t left left' taken taken' (text, answers, appends) = (text, answers)

  -- the same where the last answer couldn't be written
  pub unwritten : (s t next : S) (left left' left'' taken taken' : Option (List ℕ)) (held after : List ℕ) (ended ended' : Bool) (answer : Result (Vec ℕ Global) AllocError)
      → Served may_answer s t left left' taken taken' held ended → GotAnswer may_answer t next left' left'' (Some answer) held after ended ended'
      → AnsweredSoFar may_answer s next left left''
  unwritten s t next left left' left'' taken taken' held after ended ended' answer (bytes, text, front, consumes, appends, answers, are, whole) got =
      answered_so_far s next left left'' None None
      (served_so_far s next next left left'' left'' None None after ended'
      (served_more s t next left left' left'' None None None held after ended ended' answer (bytes, text, front, consumes, tt, answers, are, whole) got tt)
      ([], Consumes-nil left'', λ _. refl) refl)

  -- the answers up to one of which a beginning was written
  pub served_in_part : (s t next : S) (left left' left'' taken taken' taken'' : Option (List ℕ)) (held after : List ℕ) (ended ended' : Bool) (answer : Result (Vec ℕ Global) AllocError)
      → Served may_answer s t left left' taken taken' held ended → GotAnswer may_answer t next left' left'' (Some answer) held after ended ended'
      → AppendsFront taken' taken'' (answer_text answer) → ServedInPart may_answer s next left left'' taken taken''
  served_in_part s t next left left' left'' taken taken' taken'' held after ended ended' answer (bytes, text, front, consumes, appends, answers, are, whole) (more, consumed, (line, cut, one), stays) began =
      let cuts : lines (held ++ more) ≡ line ∷ lines (after ++ []) =
      sym (ap lines (append-nil (held ++ more))) ∙ cut_lines (held ++ more) line after [] ended' cut (λ _. refl) in
      let all : lines (bytes ++ more) ≡ front ++ line ∷ lines (after ++ []) = are more (λ e. (stays e).0) ∙ ap (λ ls. front ++ ls) cuts in
      (bytes ++ more, line, text, answer_text answer, front, lines (after ++ []), t, taken', Consumes-trans left left' left'' bytes more consumes consumed, all, answers, one, appends, began)

  -- the answers up to a failed read: each line that has its end was answered
  pub served_whole : (s t next : S) (left left' left'' taken taken' : Option (List ℕ)) (held : List ℕ) (ended : Bool)
      → Served may_answer s t left left' taken taken' held ended → IsUnfinished left' left'' held ended → next ≡ t → Serves whole_lines may_answer s next left left'' taken taken'
  served_whole s t next left left' left'' taken taken' held ended (bytes, text, front, consumes, appends, answers, are, whole) (more, gave, free, unended) same =
      let all : whole_lines (bytes ++ more) ≡ front = whole more unended ∙ ap (λ ls. front ++ ls) (none_whole (held ++ more) free) ∙ append-nil front in
      let given : Answers may_answer s (whole_lines (bytes ++ more)) next text =
      subst (λ ls. Answers may_answer s ls next text) (sym all) (subst (λ x. Answers may_answer s front x text) (sym same) answers) in
      (bytes ++ more, text, Consumes-trans left left' left'' bytes more consumes gave, given, appends)

  -- how many lines there were
  pub lines_more : (t next : S) (left left' left'' : Option (List ℕ)) (count : ℕ) (held after : List ℕ) (ended ended' : Bool) (answer : Result (Vec ℕ Global) AllocError)
      → GaveForLines count left left' held → GotAnswer may_answer t next left' left'' (Some answer) held after ended ended' → GaveForLines (count + 1) left left'' after
  lines_more t next left left' left'' count held after ended ended' answer (bytes, consumes, enough) (more, consumed, (line, cut, one), stays) = (
    bytes ++ more,
    Consumes-trans left left' left'' bytes more consumes consumed,
    omega (arith, enough, cut_length (held ++ more) line after ended' cut, length-append held more, length-append bytes more),
  )

pub lines_none : (left : Option (List ℕ)) (held : List ℕ) → held ≡ [] → GaveForLines 0 left left held
lines_none left held none = ([], Consumes-nil left, omega (arith, ap length none))

pub lines_all : (left left' : Option (List ℕ)) (count : ℕ) (held : List ℕ) → GaveForLines count left left' held → 2 ^ 64 - 1 ≤ count → GaveAtLeast (2 ^ 64 - 2) left left'
lines_all left left' count held (bytes, consumes, enough) many = (bytes, consumes, omega (arith, enough, many))

-- a line that takes too many reads
pub long_line : (left left' left'' : Option (List ℕ)) (count : ℕ) (held : List ℕ) → GaveForLines count left left' held → GaveAtLeast (2 ^ 64 - 2) left' left'' → GaveAtLeast (2 ^ 64 - 2) left left''
long_line left left' left'' count held (bytes, consumes, enough) (more, consumed, many) =
    (bytes ++ more, Consumes-trans left left' left'' bytes more consumes consumed, omega (arith, many, length-append bytes more))
