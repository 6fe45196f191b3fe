-- What the texts of documents are read as after a change.
use Rattle.std.specs.Prelude.{◌≡◌, ℕ, List, [], Option, Some, option_and_then, slice_get, string_bytes}
use Rattle.serde_json.specs.Data.{Data}
use Rattle.serde_json.specs.Read.{read}
use Rattle.ref_positions.specs.declared.format.Format.TheVariants.{Json}
use Rattle.ref_edits.specs.declared.given.Written.{Written}
use Rattle.ref_edits.specs.declared.plan.Change.{Change}
use Rattle.ref_edits.specs.declared.splicing.Edit.{Edit}
use Rattle.ref_edits.specs.Changed.{IsAfter, wanted_by}

-- a text of JSON is read as a tree, and another one as what changes of the document with a number make of that
abbrev pub IsReadAfter : List Change → ℕ → List ℕ → List ℕ → Type 0
IsReadAfter changes document old new =
    (before : Data) × (after : Data) × (read old ≡ Some before) × (read new ≡ Some after)
    × IsAfter (wanted_by document changes) [] before after

-- the text of the document with a number, where it can be changed
abbrev pub text_at : List (Option Written) → ℕ → Option Written
text_at texts document = option_and_then (λ text. text) (slice_get texts document)

-- what an edit makes of a text of JSON is read as what changes make of its tree
abbrev pub IsEditRead : List (Option Written) → List Change → Edit → Type 0
IsEditRead texts changes e =
    (w : Written) → text_at texts e.document ≡ Some w → w.format ≡ Json
    → IsReadAfter changes e.document w.text.now (string_bytes e.text)
