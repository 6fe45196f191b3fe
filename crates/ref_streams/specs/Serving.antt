-- What a service answers to lines, one after another.
use Rattle.std.specs.Prelude.{◌≡◌, ◌≤◌, length, ℕ, List, [], ◌∷◌, ◌++◌, ◌⊎◌, Option, codes}
use Rattle.std.specs.Io.KnownBytes.{Appends, Consumes}
use Rattle.ref_streams.specs.Bytes.{AppendsFront}
use Rattle.ref_streams.specs.Lines.{lines}

-- the answer where memory is refused, with its end
abbrev pub out_of_memory : List ℕ
out_of_memory = codes "{\"error\":{\"message\":\"Out of memory\",\"name\":\"OutOfMemory\"}}\n"

-- The answer to one line: one that the service may give, after which it is as it says, or else the one that says that
-- memory is refused, after which the service is as it was.
abbrev pub AnswersLine : {S : Type 0} → (S → List ℕ → S → List ℕ → Type 0) → S → List ℕ → S → List ℕ
    → Type 0
AnswersLine may_answer service line next text =
    may_answer service line next text ⊎ ((text ≡ out_of_memory) × (next ≡ service))

-- the answers to lines, one after the other: each line has one
abbrev pub Answers : {S : Type 0} → (S → List ℕ → S → List ℕ → Type 0) → S → List (List ℕ) → S
    → List ℕ → Type 0
Answers may_answer service [] end text = (text ≡ []) × (end ≡ service)
Answers {S} may_answer service (line ∷ more) end text =
    (next : S) × (first rest : List ℕ) × AnswersLine may_answer service line next first
    × Answers may_answer next more end rest × (text ≡ first ++ rest)

-- The source gave some bytes, and the sink took the answers to the lines into which these are cut. Where the source says
-- which bytes are left, those that it gave were before them.
abbrev pub Serves : {S : Type 0} → (List ℕ → List (List ℕ)) → (S → List ℕ → S → List ℕ → Type 0)
    → S → S → Option (List ℕ) → Option (List ℕ) → Option (List ℕ) → Option (List ℕ) → Type 0
Serves cut may_answer service end left left' taken taken' =
    (bytes text : List ℕ) × Consumes left left' bytes
    × Answers may_answer service (cut bytes) end text × Appends taken taken' text

-- The source gave some bytes, and the text is the answers to the first lines of these.
abbrev pub AnswersSoFar : {S : Type 0} → (S → List ℕ → S → List ℕ → Type 0) → S → S
    → Option (List ℕ) → Option (List ℕ) → List ℕ → Type 0
AnswersSoFar may_answer service end left left' text =
    (bytes : List ℕ) × (answered others : List (List ℕ)) × Consumes left left' bytes
    × (lines bytes ≡ answered ++ others) × Answers may_answer service answered end text

-- The sink took the answers to the first lines of what the source gave.
abbrev pub ServedSoFar : {S : Type 0} → (S → List ℕ → S → List ℕ → Type 0) → S → S → Option (List ℕ)
    → Option (List ℕ) → Option (List ℕ) → Option (List ℕ) → Type 0
ServedSoFar may_answer service end left left' taken taken' =
    (text : List ℕ) × AnswersSoFar may_answer service end left left' text
    × Appends taken taken' text

-- The sink took the answers to the first lines of what the source gave, and a beginning of the answer to the line after these.
abbrev pub ServedInPart : {S : Type 0} → (S → List ℕ → S → List ℕ → Type 0) → S → S
    → Option (List ℕ) → Option (List ℕ) → Option (List ℕ) → Option (List ℕ) → Type 0
ServedInPart {S} may_answer service end left left' taken taken' =
    (bytes line text answer : List ℕ) × (answered others : List (List ℕ)) × (before : S)
    × (between : Option (List ℕ)) × Consumes left left' bytes
    × (lines bytes ≡ answered ++ line ∷ others)
    × Answers may_answer service answered before text
    × AnswersLine may_answer before line end answer
    × Appends taken between text × AppendsFront between taken' answer

-- The service is as the answers to the first lines of what the source gave leave it.
abbrev pub AnsweredSoFar : {S : Type 0} → (S → List ℕ → S → List ℕ → Type 0) → S → S
    → Option (List ℕ) → Option (List ℕ) → Type 0
AnsweredSoFar may_answer service end left left' =
    (text : List ℕ) × AnswersSoFar may_answer service end left left' text

-- the source gave at least so many bytes
abbrev pub GaveAtLeast : ℕ → Option (List ℕ) → Option (List ℕ) → Type 0
GaveAtLeast count left left' =
    (bytes : List ℕ) × Consumes left left' bytes × (count ≤ length bytes)
