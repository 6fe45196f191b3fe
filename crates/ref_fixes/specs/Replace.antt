-- A text with parts replaced.
use Rattle.std.specs.Prelude.{ℕ, ◌≤◌, ◌++◌, List, [], ◌∷◌, ⊤, drop, slice_range, string_bytes, IsCharBoundary}
use Rattle.ref_fixes.specs.declared.replace.Replacement.{Replacement}

-- a part: where it begins, where it ends, and what comes in its place
abbrev pub Part : Type 0
Part = ℕ × ℕ × List ℕ

abbrev pub part_of : Replacement → Part
part_of r = (r.start, r.end, string_bytes r.text)

-- each part begins and ends between characters of a text, and none begins before an offset, or before the one before it ends
abbrev pub AreWithin : ℕ → List Part → List ℕ → Type 0
AreWithin from [] text = ⊤
AreWithin from (part ∷ rest) text =
    (from ≤ part.0) × (part.0 ≤ part.1) × IsCharBoundary text part.0 × IsCharBoundary text part.1
    × AreWithin part.1 rest text

-- what follows an offset of a text, with each part replaced
abbrev pub replaced : ℕ → List Part → List ℕ → List ℕ
replaced from [] text = drop from text
replaced from (part ∷ rest) text = slice_range text from part.0 ++ part.2 ++ replaced part.1 rest text
