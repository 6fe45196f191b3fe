-- Which texts that findings are about a value may have.
use Rattle.std.specs.Prelude.{◌≡◌, [], codes, false, None, is_some}
use Rattle.serde_json.specs.Data.{Data}
use Rattle.serde_json.specs.Find.{get}
use Rattle.ref_draft.specs.declared.draft.Draft.{Draft}
use Rattle.ref_draft.specs.Schema.{text_under, identifier}
use Rattle.ref_draft.specs.Anchors.{anchors}
use Rattle.ref_findings.specs.declared.texts.Texts.{Texts}

-- it has no `$dynamicRef` and no `$recursiveRef`
abbrev pub HasNoDynamic : Data → Type 0
HasNoDynamic value =
    (is_some (get (codes "$dynamicRef") value) ≡ false)
    × (is_some (get (codes "$recursiveRef") value) ≡ false)

-- it has no identifier, no reference, no `$schema` and no anchor
abbrev pub IsPlain : Draft → Data → Type 0
IsPlain draft value =
    (is_some (get (codes "$ref") value) ≡ false) × (text_under (codes "$schema") value ≡ None)
    × (identifier draft value ≡ None) × (anchors draft value ≡ []) × HasNoDynamic value

-- the texts of a value are among these
abbrev pub AreAmong : Texts → Draft → Data → Type 0
AreAmong t draft value =
    (t.reference ≡ false → is_some (get (codes "$ref") value) ≡ false)
    × (t.schema ≡ false → text_under (codes "$schema") value ≡ None)
    × (t.id ≡ false → identifier draft value ≡ None)
    × (t.anchor ≡ false → anchors draft value ≡ []) × (t.dynamic ≡ false → HasNoDynamic value)
