-- The entries that a sorted table keeps: each pair of texts once, in the order of their keys.
use Rattle.std.specs.Prelude.{◌≡◌, ◌==◌, ℕ, zero, suc, ◌+◌, ◌-◌, ◌*◌, ◌^◌, ◌≤◌, Bool, ◌&&◌, bytes_eq, List, [], ◌∷◌, length, map, take, drop, All, IsUtf8}
use Rattle.std.specs.List.Sorted.{IsStrictlySortedBy}
use Rattle.std.specs.Cmp.Lexicographic.{slice_cmp}
use Rattle.std.specs.Ordering.{nat_cmp, ordering_then}
use Rattle.std.specs.declared.cmp.Ordering.{Ordering}
use Rattle.ref_parts.specs.Table.{Entry, last_value, pair_count}
use Rattle.ref_parts.specs.declared.table.Slot.{Slot}

-- the byte order of pairs of texts: by the first, and by the second where the first are equal
abbrev pub pair_cmp : List ℕ × List ℕ → List ℕ × List ℕ → Ordering
pair_cmp p q = ordering_then (slice_cmp nat_cmp p.0 q.0) (slice_cmp nat_cmp p.1 q.1)

-- the part of a buffer from one offset to another
abbrev pub text_between : ℕ → ℕ → List ℕ → List ℕ
text_between from to texts = take (to - from) (drop from texts)

-- the texts that an entry is under
abbrev pub pair_of : {V : Type 0} → List ℕ → Slot V → List ℕ × List ℕ
pair_of texts s = (text_between s.first s.second texts, text_between s.second s.end texts)

-- the entry whose texts are in a buffer
abbrev pub entry_in : {V : Type 0} → List ℕ → Slot V → Entry V
entry_in texts s = ((pair_of texts s).0, (pair_of texts s).1, s.value)

abbrev pub entries_in : {V : Type 0} → List ℕ → List (Slot V) → List (Entry V)
entries_in texts slots = map (entry_in texts) slots

-- the offsets are in order, none is past the end, and texts are between them
abbrev pub IsWithin : {V : Type 0} → List ℕ → Slot V → Type 0
IsWithin texts s =
    (s.first ≤ s.second)
    × (s.second ≤ s.end)
    × (s.end ≤ length texts)
    × IsUtf8 (pair_of texts s).0
    × IsUtf8 (pair_of texts s).1

-- the entry, where its texts are after so many more bytes
abbrev pub slot_after : {V : Type 0} → ℕ → Slot V → Slot V
slot_after before s = record {
  word = s.word;
  first = s.first + before;
  second = s.second + before;
  end = s.end + before;
  value = s.value;
}

-- where the texts of an entry are
abbrev pub place_of : {V : Type 0} → Slot V → ℕ × ℕ × ℕ
place_of s = (s.first, s.second, s.end)

-- the entry with what a function gives of its value
abbrev pub slot_with_value : {V : Type 0} → (V → V) → Slot V → Slot V
slot_with_value h s = record {
  word = s.word;
  first = s.first;
  second = s.second;
  end = s.end;
  value = h s.value;
}

-- so many bytes as a number, the first one highest, and 0 for each that there is not
abbrev pub big_endian : ℕ → List ℕ → ℕ
big_endian zero bytes = 0
big_endian (suc n) [] = 0
big_endian (suc n) (b ∷ bytes) = b * 256 ^ n + big_endian n bytes

-- eight bytes 0
abbrev pub zeros : List ℕ
zeros = 0 ∷ 0 ∷ 0 ∷ 0 ∷ 0 ∷ 0 ∷ 0 ∷ 0 ∷ []

-- the number of the eight bytes of a text from a place on
abbrev pub word_at : ℕ → List ℕ → ℕ
word_at from text = big_endian 8 (drop from text)

-- what entries are sorted by: the number of the first text, and the texts
abbrev pub Key : Type 0
Key = ℕ × (List ℕ × List ℕ)

abbrev pub key_of : {V : Type 0} → List ℕ → Slot V → Key
key_of texts s = (s.word, pair_of texts s)

-- the order of keys, the greatest first: by the numbers, and by the texts where those are equal
abbrev pub key_cmp : Key → Key → Ordering
key_cmp p q = ordering_then (nat_cmp q.0 p.0) (pair_cmp q.1 p.1)

-- one number and the same texts
abbrev pub same_slots : {V : Type 0} → List ℕ → Slot V → Slot V → Bool
same_slots texts x y =
    (x.word == y.word)
    && (bytes_eq (pair_of texts x).0 (pair_of texts y).0
    && bytes_eq (pair_of texts x).1 (pair_of texts y).1)

-- the entry with the number of its first text
abbrev pub slot_with_word : {V : Type 0} → List ℕ → ℕ → Slot V → Slot V
slot_with_word texts shared s = record {
  word = word_at shared (pair_of texts s).0;
  first = s.first;
  second = s.second;
  end = s.end;
  value = s.value;
}

-- the number is that of the first text
abbrev pub HasWord : {V : Type 0} → List ℕ → ℕ → Slot V → Type 0
HasWord texts shared s = s.word ≡ word_at shared (pair_of texts s).0

-- their numbers alone
abbrev pub words_of : {V : Type 0} → List (Slot V) → List ℕ
words_of slots = map (λ s. s.word) slots

-- the kept entries are those of the last values of the entered ones
pub record KeepsLast {V : Type 0} (texts : List ℕ) (shared : ℕ) (kept entered : List (Slot V))
    : Type 0 where
  pub sorted : IsStrictlySortedBy (λ x y. key_cmp (key_of texts x) (key_of texts y)) kept
  pub words : All (HasWord texts shared) kept
  pub within : All (IsWithin texts) kept
  pub values : (first second : List ℕ)
      → last_value first second (entries_in texts kept)
      ≡ last_value first second (entries_in texts entered)
  pub count : length kept ≡ pair_count (entries_in texts entered)
