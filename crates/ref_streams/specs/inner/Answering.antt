-- The next answer of a service.
use Rattle.std.specs.Prelude.{◌≡◌, ℕ, Bool, true, false, List, [], ◌++◌, Option, Some, None, Result, Ok, Err, Vec}
use Rattle.std.specs.Io.KnownBytes.{Appends, Consumes}
use Rattle.std.specs.declared.alloc.AllocError.{AllocError}
use Rattle.std.specs.declared.alloc.Global.{Global}
use Rattle.ref_streams.specs.Lines.{lines, whole_lines}
use Rattle.ref_streams.specs.Serving.{Answers, AnswersLine, out_of_memory}
use Rattle.ref_streams.specs.inner.Held.{Cuts, StaysEnded}

-- the bytes of an answer
abbrev pub answer_text : Result (Vec ℕ Global) AllocError → List ℕ
answer_text (Ok text) = text.items
answer_text (Err refused) = out_of_memory

-- the bytes begin with a line, to which this is the answer, or there is neither
abbrev pub IsNextAnswer : {S : Type 0} → (S → List ℕ → S → List ℕ → Type 0) → S → S
    → Option (Result (Vec ℕ Global) AllocError) → List ℕ → List ℕ → Bool → Type 0
IsNextAnswer may_answer service next None before after ended =
    (before ≡ []) × (after ≡ []) × (ended ≡ true) × (next ≡ service)
IsNextAnswer may_answer service next (Some answer) before after ended =
    (line : List ℕ) × Cuts before line after ended
    × AnswersLine may_answer service line next (answer_text answer)

-- the lines of these bytes, whatever follows them, are those in front, and then the lines of what is held; nothing
-- follows the end
abbrev pub AreFront : List ℕ → List (List ℕ) → List ℕ → Bool → Type 0
AreFront bytes front held ended =
    (rest : List ℕ) → (ended ≡ true → rest ≡ [])
    → lines (bytes ++ rest) ≡ front ++ lines (held ++ rest)

-- the same of the lines that end at a line feed, before the end
abbrev pub AreWhole : List ℕ → List (List ℕ) → List ℕ → Bool → Type 0
AreWhole bytes front held ended =
    (rest : List ℕ) → ended ≡ false
    → whole_lines (bytes ++ rest) ≡ front ++ whole_lines (held ++ rest)

-- the lines before what is held were answered
abbrev pub Served : {S : Type 0} → (S → List ℕ → S → List ℕ → Type 0) → S → S → Option (List ℕ)
    → Option (List ℕ) → Option (List ℕ) → Option (List ℕ) → List ℕ → Bool → Type 0
Served may_answer service end left left' taken taken' held ended =
    (bytes text : List ℕ) × (front : List (List ℕ)) × Consumes left left' bytes
    × Appends taken taken' text × Answers may_answer service front end text
    × AreFront bytes front held ended × AreWhole bytes front held ended

-- the next answer, to a line of what was held and of bytes that were read
abbrev pub GotAnswer : {S : Type 0} → (S → List ℕ → S → List ℕ → Type 0) → S → S → Option (List ℕ)
    → Option (List ℕ) → Option (Result (Vec ℕ Global) AllocError) → List ℕ → List ℕ → Bool → Bool
    → Type 0
GotAnswer may_answer service next left left' answer before after ended ended' =
    (bytes : List ℕ) × Consumes left left' bytes
    × IsNextAnswer may_answer service next answer (before ++ bytes) after ended'
    × StaysEnded ended ended' bytes
