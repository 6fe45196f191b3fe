-- What a chunk holds, and what is read of a line.
use Rattle.std.specs.Prelude.{◌≡◌, ◌≢◌, ◌≤◌, length, ℕ, ◌+◌, ◌-◌, Bool, true, false, List, [], ◌∷◌, ◌++◌, ◌⊎◌, take, drop, Option}
use Rattle.std.specs.Io.KnownBytes.{Consumes}
use Rattle.ref_streams.specs.declared.chunk.Chunk.{Chunk}
use Rattle.ref_streams.specs.declared.line.Part.{Part}
use Rattle.ref_streams.specs.declared.line.Line.{Line}
use Rattle.ref_streams.specs.declared.line.Line.TheVariants.{Text, Lost, End}

-- the bytes that are left of a chunk
abbrev pub bytes_held : Chunk → List ℕ
bytes_held c = take (c.end - c.start) (drop c.start c.bytes)

-- none of the bytes is a line feed
abbrev pub IsFree : List ℕ → Type 0
IsFree [] = Unit {0}
IsFree (x ∷ xs) = (x ≢ 10) × IsFree xs

-- the part keeps the bytes of a line, unless memory was refused for them
pub record Keeps (part : Part) (line : List ℕ) : Type 0 where
  pub kept : part.is_lost ≡ false → part.bytes.items ≡ line
  pub lost : part.is_lost ≡ true → line ≢ []

-- bytes up to a line feed were passed with it, or without one all
abbrev pub Passes : List ℕ → List ℕ → Bool → List ℕ → Type 0
Passes before passed true after = IsFree passed × (before ≡ passed ++ 10 ∷ after)
Passes before passed false after = IsFree passed × (before ≡ passed) × (after ≡ [])

-- The bytes begin with a line, and these are after it; the last line may end where the source does.
abbrev pub Cuts : List ℕ → List ℕ → List ℕ → Bool → Type 0
Cuts before line after ended =
    IsFree line
    × ((before ≡ line ++ 10 ∷ after)
    ⊎ ((before ≡ line) × (line ≢ []) × (after ≡ []) × (ended ≡ true)))

-- the next line of bytes
abbrev pub IsNext : Line → List ℕ → List ℕ → Bool → Type 0
IsNext (Text line) before after ended = Cuts before line.items after ended
IsNext Lost before after ended = (line : List ℕ) × Cuts before line after ended
IsNext End before after ended = (before ≡ []) × (after ≡ []) × (ended ≡ true)

-- where the end was reached, nothing was read, and it stays so
abbrev pub StaysEnded : Bool → Bool → List ℕ → Type 0
StaysEnded ended ended' bytes = ended ≡ true → (bytes ≡ []) × (ended' ≡ true)

-- some bytes were read, and a line is kept of what was held before and of these; the rest is held
abbrev pub Got : Option (List ℕ) → Option (List ℕ) → List ℕ → List ℕ → Part → Bool → Bool → Type 0
Got left left' before after part ended ended' =
    (bytes line : List ℕ) × Consumes left left' bytes × (before ++ bytes ≡ line ++ after)
    × IsFree line × Keeps part line × StaysEnded ended ended' bytes

-- the next line of what was held and of bytes that were read
abbrev pub GotNext : Option (List ℕ) → Option (List ℕ) → List ℕ → List ℕ → Line → Bool → Bool
    → Type 0
GotNext left left' before after line ended ended' =
    (bytes : List ℕ) × Consumes left left' bytes × IsNext line (before ++ bytes) after ended'
    × StaysEnded ended ended' bytes

-- some bytes were read, and none where the end was reached before
abbrev pub Gave : Option (List ℕ) → Option (List ℕ) → Bool → Type 0
Gave left left' ended = (bytes : List ℕ) × Consumes left left' bytes × (ended ≡ true → bytes ≡ [])

-- bytes were read, and what was held goes on with them without a line feed; the end wasn't reached
abbrev pub IsUnfinished : Option (List ℕ) → Option (List ℕ) → List ℕ → Bool → Type 0
IsUnfinished left left' before ended =
    (bytes : List ℕ) × Consumes left left' bytes × IsFree (before ++ bytes) × (ended ≡ false)

-- a byte was read in each of so many reads, but for one that met the end
abbrev pub GaveForReads : ℕ → Option (List ℕ) → Option (List ℕ) → Bool → Type 0
GaveForReads count left left' ended =
    (bytes : List ℕ) × Consumes left left' bytes × (count ≤ length bytes + 1)
    × (ended ≡ false → count ≤ length bytes)

-- a byte was read for each of so many lines, beside what is held
abbrev pub GaveForLines : ℕ → Option (List ℕ) → Option (List ℕ) → List ℕ → Type 0
GaveForLines count left left' held =
    (bytes : List ℕ) × Consumes left left' bytes × (count + length held ≤ length bytes)
