-- What is to be told of a place where a schema is, by itself.
use Rattle.std.specs.Prelude.{ℕ, List, [], ◌∷◌, ◌++◌, map, flat_map, filter, codes, Bool, not, ◌&&◌, ◌||◌, is_some, bytes_eq, if◌then◌else◌, option_and_then}
use Rattle.std.specs.Option.{option_map_or}
use Rattle.std.specs.List.{enumerate_from}
use Rattle.serde_json.specs.Data.{Data}
use Rattle.serde_json.specs.Find.{get}
use Rattle.ref_draft.specs.declared.draft.Draft.{Draft}
use Rattle.ref_draft.specs.Schema.{text_under, identifier}
use Rattle.ref_rules.specs.declared.slip.Problem.{Problem}
use Rattle.ref_rules.specs.declared.slip.Problem.TheVariants.{OfAnotherDraft, DialectWithin, IgnoredBesideRef, UnheardBesideRef, MisspelledDialect}
use Rattle.ref_rules.specs.Tables.{of_others, decides, tells}
use Rattle.ref_rules.specs.Dialects.{misspelled}

-- A place where a schema is: whether it is the root of its document, its draft, and its value
pub record Place : Type 0 where
  pub is_root : Bool
  pub draft : Draft
  pub value : Data

-- what is told of a keyword of a place
pub record Slip : Type 0 where
  pub place : ℕ
  pub keyword : List ℕ
  pub problem : Problem

-- one of each of these keywords
abbrev pub each : ℕ → Problem → List (List ℕ) → List Slip
each place problem keywords =
    map (λ k. record { place = place; keyword = k; problem = problem }) keywords

-- whether a value has a keyword
abbrev pub is_there : Data → List ℕ → Bool
is_there value k = is_some (get k value)

-- Keywords that its draft doesn't have. An `id` counts where it is a text, as an identifier is
abbrev pub is_text_or_not_id : Data → List ℕ → Bool
is_text_or_not_id value k = not (bytes_eq k (codes "id")) || is_some (text_under k value)

abbrev pub of_another : Place → List (List ℕ)
of_another p =
    filter (λ k. is_there p.value k && is_text_or_not_id p.value k) (of_others p.draft)

-- A `$schema` elsewhere than at the root of a schema that has an identifier (2020-12 Core, 8.1.1; Draft 7 Core, 7)
abbrev pub is_dialect_within : Place → Bool
is_dialect_within p =
    not p.is_root && is_some (text_under (codes "$schema") p.value)
    && not (is_some (identifier p.draft p.value))

abbrev pub dialects_within : Place → List (List ℕ)
dialects_within p = if is_dialect_within p then codes "$schema" ∷ [] else []

-- those of these keywords that are beside a `$ref` that is a text
abbrev pub beside_ref : Place → List (List ℕ) → List (List ℕ)
beside_ref p keywords =
    if is_some (text_under (codes "$ref") p.value) then filter (is_there p.value) keywords else []

-- a `$schema` that means a draft, and is not its URI
abbrev pub misspelled_at : ℕ → Place → List Slip
misspelled_at n p =
    option_map_or (λ d. each n (MisspelledDialect d) (codes "$schema" ∷ []))
    (option_and_then misspelled (text_under (codes "$schema") p.value)) []

-- What is told of the place with a number
abbrev pub slips_at : ℕ × Place → List Slip
slips_at e =
    each e.0 (OfAnotherDraft e.1.draft) (of_another e.1)
    ++ (each e.0 DialectWithin (dialects_within e.1)
    ++ (each e.0 IgnoredBesideRef (beside_ref e.1 (decides e.1.draft))
    ++ (each e.0 UnheardBesideRef (beside_ref e.1 (tells e.1.draft))
    ++ misspelled_at e.0 e.1)))

-- What is told of places, in their order
abbrev pub slips : List Place → List Slip
slips places = flat_map slips_at (enumerate_from 0 places)
