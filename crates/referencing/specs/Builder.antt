-- What contracts see of a builder.
use Rattle.std.specs.Prelude.{◌≡◌, ℕ, List, map, Option, None, Some, Result, Ok}
use Rattle.std.specs.Iterator.{Drains}
use Rattle.serde_json.specs.Data.{Data}
use Rattle.ref_uri.specs.Targets.{Refusal}
use Rattle.ref_draft.specs.declared.draft.Draft.{Draft}
use Rattle.ref_definitions.specs.World.{World}
use Rattle.ref_definitions.specs.Pending.{Addition, Pending}
use Rattle.ref_index.specs.Contents.{tree_of}
use Rattle.referencing.specs.declared.input.PendingResource.{PendingResource}
use Rattle.referencing.specs.declared.builder.RegistryBuilder.{RegistryBuilder}

-- a builder: its retriever, how many documents may be retrieved, the draft that was set, the parents' layers, nearest first,
-- and the documents that were added
pub record Builder (R : Type 0) : Type 0 where
  pub retriever : R
  pub limit : ℕ
  pub draft : Option Draft
  pub parents : World
  pub pending : List Pending

-- a pending document, under its URI
abbrev pub pending_under : List ℕ × PendingResource → Pending
pending_under e = record { uri = e.0; tree = tree_of e.1.contents; draft = e.1.draft }

-- the builder that the program's is
abbrev pub builder_of : {R : Type 0} → RegistryBuilder R → Builder R
builder_of b = record {
  retriever = b.retriever;
  limit = b.limit;
  draft = b.draft;
  parents = map (λ p. p.now) b.parents.items;
  pending = map pending_under b.pending.entries;
}

-- a builder without a draft, with the limit 10,000, above these layers
abbrev pub new_builder : {R : Type 0} → R → World → List Pending → Builder R
new_builder retriever parents pending =
    record {
      retriever = retriever;
      limit = 10000;
      draft = None;
      parents = parents;
      pending = pending;
    }

-- the builder with this draft set, all else as it was
abbrev pub setting_draft : {R : Type 0} → Draft → Builder R → Builder R
setting_draft draft b = record b { draft = Some draft }

-- with this retriever
abbrev pub retrieving_from : {R S : Type 0} → S → Builder R → Builder S
retrieving_from retriever b =
    record {
      retriever = retriever;
      limit = b.limit;
      draft = b.draft;
      parents = b.parents;
      pending = b.pending;
    }

-- with this limit
abbrev pub limited_to : {R : Type 0} → ℕ → Builder R → Builder R
limited_to limit b = record b { limit = limit }

-- with these pending documents
abbrev pub holding_pending : {R : Type 0} → List Pending → Builder R → Builder R
holding_pending pending b = record b { pending = pending }

-- what is added: a text, a tree, and perhaps a draft
abbrev pub addition : List ℕ → Data → Option Draft → Addition
addition text tree draft = record { text = text; tree = tree; draft = draft }

-- the builder is the old one, but holds the documents that these additions lead to
abbrev pub Adds : {R : Type 0} → Result (List Pending) Refusal → Builder R → Builder R → Type 0
Adds additions old new =
    (pending : List Pending) × (additions ≡ Ok pending) × (new ≡ holding_pending pending old)

-- something holds of all the items that what `into_iter` made of a value gave
abbrev pub OfAllFrom : {U S A : Type 0} → (U → S → Type 0) → (S → Option A → S → Type 0) → U
    → (List A → Type 0) → Type 0
OfAllFrom {S = S} {A = A} becomes steps x Holds =
    (it : S) × (xs : List A) × becomes x it × Drains steps it xs × Holds xs
