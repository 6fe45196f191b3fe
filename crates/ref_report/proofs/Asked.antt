-- What the registry of a request is asked for.
use Rattle.std.proofs.Common.{◌≡◌, ℕ, List, Option, Some, Result, subst}
use Rattle.serde_json.specs.Data.{Data}
use Rattle.ref_draft.specs.declared.draft.Draft.{Draft}
use Rattle.ref_uri.specs.Targets.{Refusal}
use Rattle.ref_definitions.specs.World.{World}
use Rattle.ref_definitions.specs.Preparing.{Given}
use Rattle.ref_definitions.specs.Pending.{Pending, builder_draft, given_of_builder}
use Rattle.ref_definitions.specs.Retrievers.{map_retriever}

pub as_asked : (P : (List Pending → Given) → Result (List Pending) Refusal → Type 0) (trees remote : List (List ℕ × Data)) (most limit : ℕ) (by : Draft) (draft : Option Draft) (layers parents : World) (added pending : Result (List Pending) Refusal)
    → trees ≡ remote → most ≡ limit → by ≡ builder_draft draft → layers ≡ parents → added ≡ pending
    → P (given_of_builder (map_retriever trees) most (Some by) layers) added → P (given_of_builder (map_retriever remote) limit draft parents) pending
as_asked P trees remote most limit by draft layers parents added pending same-trees same-limit same-draft same-layers same-documents is =
    subst (P (given_of_builder (map_retriever remote) limit draft parents)) same-documents
    (subst (λ ls. P (given_of_builder (map_retriever remote) limit draft ls) added) same-layers
    (subst (λ d. P (given_of_builder (map_retriever remote) limit (Some d) layers) added) same-draft
    (subst (λ n. P (given_of_builder (map_retriever remote) n (Some by) layers) added) same-limit
    (subst (λ ts. P (given_of_builder (map_retriever ts) most (Some by) layers) added) same-trees is))))
