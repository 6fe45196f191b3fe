-- What is published of documents (Language Server Protocol 3.17, "Diagnostic" and "PublishDiagnosticsParams"), and which are judged.
use Rattle.std.specs.Prelude.{ℕ, ◌+◌, ◌++◌, ◌==◌, ◌||◌, Bool, true, false, List, [], ◌∷◌, Option, Some, None, codes, nat_le, slice_get, unwrap_or, if◌then◌else◌}
use Rattle.std.specs.Option.{option_map_or}
use Rattle.ref_messages.specs.declared.message.Level.{Level}
use Rattle.ref_messages.specs.declared.message.Level.TheVariants.{Error, Warning, Note}
use Rattle.ref_protocol.specs.Pieces.{quoted}
use Rattle.ref_lsp.specs.declared.judged.Note.{Note as Noted}

-- the number of a severity
abbrev pub severity_of : Level → ℕ
severity_of Error = 1
severity_of Warning = 2
severity_of Note = 3

-- bytes begin with a quote or a bracket that opens
abbrev pub is_quoted : List ℕ → Bool
is_quoted [] = false
is_quoted (b ∷ rest) = b == 34 || b == 39 || b == 91 || b == 123

-- what comes after a scalar without quotes may belong to it in a block of YAML: a comma or a bracket that closes, after blanks (YAML 1.2.2, 7.3.3)
abbrev pub may_go_on : List ℕ → Bool
may_go_on [] = false
may_go_on (b ∷ rest) =
    if b == 32 || b == 9 then may_go_on rest else (b == 44 || b == 93 || b == 125)

-- the parameters that say a list of diagnostics of a document, of which the bracket at its end is left out
abbrev pub params_of : List ℕ → List ℕ → List ℕ
params_of uri list = codes "{\"uri\":" ++ quoted uri ++ codes ",\"diagnostics\":" ++ list ++ codes "]}"

-- a document is judged by flags, of which those at the end may be left out
abbrev pub is_judged : List Bool → ℕ → Bool
is_judged flags number = unwrap_or (slice_get flags number) true

-- how many searches the judgement on the document with a number took: what was noted now counts where it is judged, and else what was noted before
abbrev pub searches_at : Option (List Bool × List Noted) → ℕ → Noted → ℕ
searches_at None number before = before.searches
searches_at (Some (flags, now)) number before =
    if is_judged flags number then option_map_or (λ (note : Noted). note.searches) (slice_get now number) 0
    else before.searches

-- how many those on the documents from a number on took
abbrev pub searches_from : Option (List Bool × List Noted) → ℕ → List Noted → ℕ
searches_from judged number [] = 0
searches_from judged number (note ∷ notes) =
    searches_at judged number note + searches_from judged (number + 1) notes

-- the searches of all documents surely end: each takes at most a fiftieth of what all may take
abbrev pub is_bounded : Option (List Bool × List Noted) → List Noted → Bool
is_bounded judged notes = nat_le (searches_from judged 0 notes) 48

-- references may lead to places that no keyword leads to: as was known when all was judged last, and else they may
abbrev pub may_be_led : Option Bool → Bool
may_be_led None = true
may_be_led (Some is_led) = is_led
