-- The result of `references`.
use Rattle.std.specs.Prelude.{◌≡◌, ℕ, Bool, true, List, [], ◌∷◌, ◌++◌, ◌==◌, map, filter, flat_map, codes, if◌then◌else◌, Option, None, Some, option_map, Result, Ok, Err}
use Rattle.std.specs.List.{AllZip}
use Rattle.std.specs.Option.{option_to_list}
use Rattle.serde_json.specs.Data.{Data, string}
use Rattle.serde_json.specs.Find.{get}
use Rattle.ref_paths.specs.Path.{Part}
use Rattle.ref_uri.specs.Targets.{Refusal}
use Rattle.ref_draft.specs.declared.draft.Draft.{Draft}
use Rattle.ref_draft.specs.Schema.{text_under}
use Rattle.ref_findings.specs.Places.{dynamic_keyword}
use Rattle.ref_definitions.specs.Results.{◌>>=◌}
use Rattle.ref_definitions.specs.World.{World, local_documents}
use Rattle.ref_definitions.specs.Listing.{Listed, local_places}
use Rattle.ref_definitions.specs.Lookup.{Resolver, lookup}
use Rattle.ref_calls.specs.Objects.{object_of, list_of}
use Rattle.ref_calls.specs.Calls.{number_in, is_set}
use Rattle.ref_serve.specs.State.{Registries}
use Rattle.ref_serve.specs.Results.{Then, Asked, asked_of, IsLookedUp}
use Rattle.ref_serve.specs.Listings.{site_members}
use Rattle.ref_serve.specs.Candidates.{choice_at, candidate_members}

-- a reference: the place that has it, the base there, its keyword, and its text
pub record Reference : Type 0 where
  pub document : ℕ
  pub path : List Part
  pub base : List ℕ
  pub keyword : List ℕ
  pub text : List ℕ

-- the text under a keyword of a place, where there is one
abbrev pub reference_under : Listed → List ℕ → List ℕ → List Reference
reference_under p base keyword =
    option_to_list (option_map (λ text. record {
      document = p.document;
      path = p.path;
      base = base;
      keyword = keyword;
      text = text;
    }) (text_under keyword p.value))

-- those under `$ref` and under the keyword that a draft has for dynamic references
abbrev pub references_with : Listed → Result (List ℕ) Refusal → List Reference
references_with p (Ok base) =
    flat_map (reference_under p base) (codes "$ref" ∷ option_to_list (dynamic_keyword p.draft))
references_with p (Err refusal) = []

abbrev pub references_at : Listed → List Reference
references_at p = references_with p p.base

-- whether a place is in the document with a number, or in any where no number is asked for
abbrev pub is_in : Option ℕ → Listed → Bool
is_in None p = true
is_in (Some number) p = p.document == number

-- those of a registry's own documents, or of one of them
abbrev pub references_of : World → Option ℕ → List Reference
references_of world document =
    flat_map references_at (filter (is_in document) (local_places (local_documents world)))

-- what a reference leads to, or the error of its fault
abbrev pub target_member : Result Data Data → List (List ℕ × Data)
target_member (Ok target) = (codes "target", target) ∷ []
target_member (Err error) = (codes "error", error) ∷ []

-- from where a reference is looked up: its base, with an empty dynamic scope
abbrev pub referring_resolver : Reference → Resolver
referring_resolver r = record { base = r.base; scope = [] }

-- the places that it may lead to by the scope, where it is dynamic and they are asked for
abbrev pub asked_candidates : Asked → Reference → List (List ℕ × Data)
asked_candidates asked r =
    if asked.candidates then
    candidate_members (local_places (local_documents asked.world))
    (choice_at r.keyword r.text (lookup asked.world (referring_resolver r) r.text))
    else []

abbrev pub reference_object : Asked → Reference → Result Data Data → Data
reference_object asked r outcome =
    object_of
    (site_members r.document r.path ++ (codes "keyword", string r.keyword)
    ∷ (codes "reference", string r.text) ∷ target_member outcome ++ asked_candidates asked r)

-- the object of a reference
abbrev pub IsReferred : Asked → Reference → Data → Type 0
IsReferred asked r d =
    (outcome : Result Data Data) × IsLookedUp asked (referring_resolver r) r.text outcome
    × (d ≡ reference_object asked r outcome)

-- each of them, in order
abbrev pub AreReferred : Asked → Option ℕ → Result Data Data → Type 0
AreReferred asked document outcome =
    (ds : List Data) × AllZip (IsReferred asked) (references_of asked.world document) ds
    × (outcome ≡ Ok (list_of ds))

-- the number under `document`, where it is there
abbrev pub document_at : Option Data → Result (Option ℕ) Data
document_at None = Ok None
document_at (Some d) = number_in (codes "document") d >>= λ number. Ok (Some number)

-- what is asked, with the candidates of dynamic references where a call asks for them
abbrev pub with_candidates : Asked → Bool → Asked
with_candidates asked candidates = record asked { candidates = candidates }

-- `references`
unfoldable pub IsReferences : Registries → Data → Result Data Data → Type 0
IsReferences state d outcome =
    Then (asked_of state d)
    (λ asked. Then (document_at (get (codes "document") d))
    (λ document. Then (is_set (codes "candidates") d)
    (λ candidates. AreReferred (with_candidates asked candidates) document))) outcome
