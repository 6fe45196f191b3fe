-- What the documents of a layer want, and what is wrong with them.
use Rattle.std.specs.Prelude.{ℕ, Bool, if◌then◌else◌, List, [], ◌∷◌, ◌++◌, flat_map, filter, not, codes, Option, Some, None, Result, Ok, Err, is_some, option_map, option_and_then}
use Rattle.serde_json.specs.Data.{Data}
use Rattle.ref_draft.specs.Keywords.{is_unknown}
use Rattle.ref_draft.specs.Schema.{text_under, from_schema_uri}
use Rattle.ref_uri.specs.Reference.{with_fragment}
use Rattle.ref_uri.specs.Targets.{Refusal, target, uri_of}
use Rattle.ref_definitions.specs.Results.{◌>>=◌}
use Rattle.ref_definitions.specs.World.{Layer, World}
use Rattle.ref_definitions.specs.Places.{places}
use Rattle.ref_definitions.specs.Resources.{meant_place}

-- why a URI is wanted: a schema refers to it, or names it as its meta-schema
pub data Cause : Type 0 where
  Reference : Cause
  MetaSchema : Cause

-- a URI that is wanted, and why
pub record Want : Type 0 where
  pub cause : Cause
  pub uri : List ℕ

-- the URI of a text that names a meta-schema of no known draft: its fragment takes no part
abbrev pub schema_uri : List ℕ → Option (Result (List ℕ) Refusal)
schema_uri text =
    if is_unknown (from_schema_uri text) then
    Some (uri_of text >>= λ uri. Ok (with_fragment uri None))
    else None

-- what a place's text under `$ref` refers to, where its base is known
abbrev pub reference_at : List ℕ → Data → Option (Result (List ℕ) Refusal)
reference_at base value = option_map (target base) (text_under (codes "$ref") value)

-- what a value's `$schema` names, where that is no known draft
abbrev pub schema_at : Data → Option (Result (List ℕ) Refusal)
schema_at value = option_and_then schema_uri (text_under (codes "$schema") value)

-- what is wanted, where something is and it resolves
abbrev pub wants_of_text : Cause → Option (Result (List ℕ) Refusal) → List Want
wants_of_text cause None = []
wants_of_text cause (Some (Ok uri)) = record { cause = cause; uri = uri } ∷ []
wants_of_text cause (Some (Err refusal)) = []

-- why it does not resolve
abbrev pub refusals_of : Option (Result (List ℕ) Refusal) → List Refusal
refusals_of None = []
refusals_of (Some (Ok uri)) = []
refusals_of (Some (Err refusal)) = refusal ∷ []

-- a place wants what it refers to, which needs a base, then its meta-schema
abbrev pub wants_at : Result (List ℕ) Refusal → Data → List Want
wants_at (Ok base) value =
    wants_of_text Reference (reference_at base value) ++ wants_of_text MetaSchema (schema_at value)
wants_at (Err refusal) value = wants_of_text MetaSchema (schema_at value)

-- a place's faults: its identifier, or its reference where it has a base, then its meta-schema
abbrev pub faults_at : Result (List ℕ) Refusal → Data → List Refusal
faults_at (Ok base) value = refusals_of (reference_at base value) ++ refusals_of (schema_at value)
faults_at (Err refusal) value = refusal ∷ refusals_of (schema_at value)

-- the wants of a layer, by documents and places
abbrev pub wants : Layer → List Want
wants layer = flat_map (λ d. flat_map (λ p. wants_at p.base p.value) (places d)) layer

-- by documents and places, each place's in its order
abbrev pub faults : Layer → List Refusal
faults layer = flat_map (λ d. flat_map (λ p. faults_at p.base p.value) (places d)) layer

-- a want is open where its URI means no place
abbrev pub is_open : World → Want → Bool
is_open world want = not (is_some (meant_place world want.uri))

-- the wants of a layer that are open, in their order
abbrev pub open_wants : World → Layer → List Want
open_wants world layer = filter (is_open world) (wants layer)
