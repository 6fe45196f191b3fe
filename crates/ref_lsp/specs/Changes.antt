-- What a change of the protocol makes of a text (3.17, "TextDocumentContentChangeEvent").
use Rattle.std.specs.Prelude.{◌≡◌, ℕ, ◌==◌, List, ◌∷◌, [], ◌++◌, Bool, Option, Some, None, option_and_then, codes, drop, replicate, if◌then◌else◌}
use Rattle.std.specs.List.{starts_with}
use Rattle.serde_json.specs.Data.{Data}
use Rattle.serde_json.specs.Find.{get, pointer, as_str, as_number, as_u64}
use Rattle.ref_positions.specs.declared.format.Format.{Format}
use Rattle.ref_positions.specs.declared.format.Format.TheVariants.{Json, Yaml}
use Rattle.ref_protocol.specs.declared.encoding.Encoding.{Encoding}
use Rattle.ref_protocol.specs.Edits.{with_range, IsRange}
use Rattle.ref_protocol.specs.Positions.{offset_of, units_of}

-- the text at a pointer
abbrev pub text_at : List ℕ → Data → Option (List ℕ)
text_at path value = option_and_then as_str (pointer path value)

-- the number at a pointer
abbrev pub number_at : List ℕ → Data → Option ℕ
number_at path value = option_and_then as_u64 (option_and_then as_number (pointer path value))

abbrev pub offset_by : Encoding → List ℕ → Option ℕ → Option ℕ → Option ℕ
offset_by e text (Some line) (Some units) = Some (offset_of e line units text)
offset_by e text (Some line) None = None
offset_by e text None units = None

-- the offset of a position, where it has a line and units on it
abbrev pub offset_at : Encoding → List ℕ → Data → Option ℕ
offset_at e text place =
    offset_by e text (number_at (codes "/line") place) (number_at (codes "/character") place)

-- the offset of the position at a pointer
abbrev pub offset_in : Encoding → List ℕ → List ℕ → Data → Option ℕ
offset_in e text path value = option_and_then (offset_at e text) (pointer path value)

-- a text in place of what is between two offsets: nothing where one isn't there, or they are no range
abbrev pub IsReplaced : List ℕ → Option ℕ → Option ℕ → List ℕ → Option (List ℕ) → Type 0
IsReplaced text (Some start) (Some end) new (Some made) = made ≡ with_range text start end new
IsReplaced text (Some start) (Some end) new None = ¬ (IsRange text start end)
IsReplaced text (Some start) None new made = made ≡ None
IsReplaced text None end new made = made ≡ None

abbrev pub IsChangedBy : Encoding → List ℕ → Option (List ℕ) → Option Data → Option (List ℕ) → Type 0
IsChangedBy e text None range made = made ≡ None
IsChangedBy e text (Some new) None made = made ≡ Some new
IsChangedBy e text (Some new) (Some range) made =
    IsReplaced text (offset_in e text (codes "/start") range) (offset_in e text (codes "/end") range)
    new made

-- a text with a change: all of it, or what is in the range of the change; nothing where the change is refused, since it has no text, or a
-- range that isn't one of the text
abbrev pub IsChanged : Encoding → List ℕ → Data → Option (List ℕ) → Type 0
IsChanged e text change made =
    IsChangedBy e text (text_at (codes "/text") change) (get (codes "range") change) made

-- the byte order mark in UTF-8 (RFC 3629, 6)
abbrev pub mark : List ℕ
mark = 239 ∷ 187 ∷ 191 ∷ []

abbrev pub begins_with_mark : List ℕ → Bool
begins_with_mark text = starts_with (λ a b. a == b) text mark

-- as many spaces as the mark has units
abbrev pub blanks : Encoding → List ℕ
blanks e = replicate (units_of e 239) 32

abbrev pub unmarked_json : Encoding → List ℕ → List ℕ
unmarked_json e text = if begins_with_mark text then blanks e ++ drop 3 text else text

-- a text as it is read: a mark at the beginning of JSON counts as blanks (RFC 8259, 8.1)
abbrev pub unmarked : Format → Encoding → List ℕ → List ℕ
unmarked Yaml e text = text
unmarked Json e text = unmarked_json e text

-- what an open text is after a change: the changed one as it is read, or what it was before, where the change is refused
abbrev pub after_change : Format → Encoding → List ℕ → Option (List ℕ) → List ℕ
after_change f e before None = before
after_change f e before (Some made) = unmarked f e made
