-- The draft that a value is read by, from the one that is detected on it.
use Rattle.std.proofs.Common.{◌≡◌, ◌∙◌, refl, ap, Bool, true, false, ◌&&◌, ◌||◌, List, ℕ, [], ◌∷◌, map, Option, Some, None, Result, codes}
use Rattle.std.specs.Prelude.{if◌then◌else◌, option_and_then}
use Rattle.std.specs.Option.{option_map_or}
use Rattle.serde_json.specs.Data.{Data}
use Rattle.ref_draft.specs.declared.draft.Draft.{Draft}
use Rattle.ref_draft.specs.Keywords.{is_unknown}
use Rattle.ref_draft.specs.Schema.{text_under, detect, from_schema_uri}
use Rattle.ref_draft.specs.Children.{Child, with_draft, children, walked_children}
use Rattle.ref_uri.specs.Targets.{Refusal}
use Rattle.ref_definitions.specs.Wants.{schema_uri, schema_at}
use Rattle.ref_findings.specs.Places.{is_refused, read_draft, with_read_draft, read_children}
use Rattle.ref_findings.specs.inner.Seen.{draft_by, read_again}

-- where the text under `$schema` is of a known draft, it isn't refused
by_text : (d : Draft) (text : Option (List ℕ))
    → (is_unknown (option_map_or from_schema_uri text d) && is_refused (option_and_then schema_uri text)) ≡ is_refused (option_and_then schema_uri text)
by_text d None = none (is_unknown d)
  where
    none : (b : Bool) → (b && false) ≡ false
    none true = refl
    none false = refl
by_text d (Some text) = some (is_unknown (from_schema_uri text)) _
  where
    some : (b : Bool) (o : Option (Result (List ℕ) Refusal)) → (b && is_refused (if b then o else None)) ≡ is_refused (if b then o else None)
    some true o = refl
    some false o = refl

pub draft_is : (d : Draft) (value : Data) → draft_by d (detect d value) value ≡ read_draft d value
draft_is d value = ap (λ b. if b then d else detect d value) (by_text d (text_under (codes "$schema") value))

again : (d : Draft) (cs : List Child) → map (read_again d) (map (with_draft d) cs) ≡ map (with_read_draft d) cs
again d [] = refl
again d (c ∷ cs) = ap (λ r. record { path = c.0; value = c.1; draft = r } ∷ map (read_again d) (map (with_draft d) cs)) (draft_is d c.1) ∙ ap (λ l. with_read_draft d c ∷ l) (again d cs)

pub read_all : (d : Draft) (value : Data) → map (read_again d) (walked_children d value) ≡ read_children d value
read_all d value = again d (children d value)
