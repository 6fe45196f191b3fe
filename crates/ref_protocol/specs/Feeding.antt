-- What is read of a source, and which frames that has.
use Rattle.std.specs.Prelude.{◌≡◌, ◌≢◌, ℕ, ◌-◌, List, [], ◌++◌, take, drop, Option}
use Rattle.std.specs.Io.KnownBytes.{Consumes}
use Rattle.ref_protocol.specs.declared.feed.Feed.{Feed}
use Rattle.ref_protocol.specs.declared.feed.Next.{Next}
use Rattle.ref_protocol.specs.declared.feed.Next.TheVariants.{Content, Wait, Broken}
use Rattle.ref_protocol.specs.declared.feed.More.{More}
use Rattle.ref_protocol.specs.declared.feed.More.TheVariants.{Bytes, End, Cut, Failed}
use Rattle.ref_protocol.specs.declared.frames.Frame.{Frame}
use Rattle.ref_protocol.specs.declared.frames.Frame.TheVariants.{Part, Whole, NoLength, TooLong}

-- what was read and isn't taken yet
abbrev pub bytes_left : Feed → List ℕ
bytes_left f = drop f.taken f.bytes.items

-- what comes next, by the frame that the bytes begin with: its content is taken with it, and else nothing is
abbrev pub IsNext : Frame → List ℕ → Next → List ℕ → Type 0
IsNext (Whole start end) before (Content content) after =
    (content.items ≡ take (end - start) (drop start before)) × (after ≡ drop end before)
IsNext Part before Wait after = after ≡ before
IsNext NoLength before (Broken why) after = after ≡ before
IsNext TooLong before (Broken why) after = after ≡ before
IsNext other before next after = ⊥

-- what a read gave: bytes that come after those that are left, or nothing
abbrev pub IsFilled : More → Option (List ℕ) → Option (List ℕ) → List ℕ → List ℕ → Type 0
IsFilled Bytes source source' left left' =
    (bytes : List ℕ) × Consumes source source' bytes × (left' ≡ left ++ bytes)
IsFilled End source source' left left' = (left ≡ []) × (left' ≡ [])
IsFilled Cut source source' left left' = (left ≢ []) × (left' ≡ left)
IsFilled Failed source source' left left' = left' ≡ left
