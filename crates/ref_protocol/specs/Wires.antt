-- What a wire shows, and what it hears: the frames that are read of a source, each of which may be answered once.
use Rattle.std.specs.Prelude.{◌≡◌, ◌≤◌, ◌<◌, ◌+◌, ◌-◌, ◌^◌, ℕ, List, Bool, true, false, Option, String, take, drop}
use Rattle.std.specs.declared.alloc.Global.{Global}
use Rattle.ref_protocol.specs.declared.frames.Frame.{Frame}
use Rattle.ref_protocol.specs.declared.frames.Frame.TheVariants.{Part, Whole, NoLength, TooLong}
use Rattle.ref_protocol.specs.declared.wire.Heard.{Heard}
use Rattle.ref_protocol.specs.declared.wire.Heard.TheVariants as heard
use Rattle.ref_protocol.specs.declared.wire.Wire.{Wire}
use Rattle.ref_protocol.specs.Feeding.{bytes_left}
use Rattle.ref_protocol.specs.Hearing.{IsHeard, id_shown}

-- how many frames were read
abbrev pub frames_read : {R W : Type 0} → Wire R W → ℕ
frames_read w = w.frames

-- how many answers were sent
abbrev pub answers_sent : {R W : Type 0} → Wire R W → ℕ
answers_sent w = w.answers

-- the frame that was read last may be answered
abbrev pub may_answer : {R W : Type 0} → Wire R W → Bool
may_answer w = w.is_due

-- the text of the id of the frame that was read last, where it has one
abbrev pub id_kept : {R W : Type 0} → Wire R W → Option (String Global)
id_kept w = w.id

-- the id of an answer to it
abbrev pub id_due : {R W : Type 0} → Wire R W → List ℕ
id_due w = id_shown w.id

-- what was read and isn't taken yet
abbrev pub left_of : {R W : Type 0} → Wire R W → List ℕ
left_of w = bytes_left w.feed

abbrev pub source_of : {R W : Type 0} → Wire R W → R
source_of w = w.source

abbrev pub sink_of : {R W : Type 0} → Wire R W → W
sink_of w = w.sink

abbrev pub as_count : Bool → ℕ
as_count true = 1
as_count false = 0

-- no more answers were sent than frames were read, and fewer where one may still be sent
abbrev pub HasAtMostOne : {R W : Type 0} → Wire R W → Type 0
HasAtMostOne w =
    (answers_sent w ≤ frames_read w) × (may_answer w ≡ true → answers_sent w < frames_read w)

-- what is heard, by the frame that the bytes begin with: the message of its content, with its id, and the frame is taken
abbrev pub IsRead : Frame → List ℕ → Heard → Option (String Global) → List ℕ → Type 0
IsRead (Whole start end) before (heard.Frame message) id after =
    IsHeard (take (end - start) (drop start before)) message id × (after ≡ drop end before)
IsRead Part before heard.Wait id after = after ≡ before
IsRead NoLength before (heard.Broken why) id after = after ≡ before
IsRead TooLong before (heard.Broken why) id after = after ≡ before
IsRead other before heard id after = ⊥

-- one frame more, which may be answered; 2^64 - 1 of them are counted at most
abbrev pub IsCounted : Heard → ℕ → Bool → ℕ → Bool → Type 0
IsCounted (heard.Frame message) frames due frames' due' =
    frames < 2 ^ 64 - 1 → (frames' ≡ frames + 1) × (due' ≡ true)
IsCounted other frames due frames' due' = (frames' ≡ frames) × (due' ≡ due)
