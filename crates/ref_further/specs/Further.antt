-- The further places of the documents of a registry: what references lead to where no keyword does.
use Rattle.std.specs.Prelude.{◌≡◌, ℕ, zero, suc, ◌<◌, ◌==◌, List, [], ◌∷◌, ◌++◌, map, flat_map, length, codes, is_some, if◌then◌else◌, slice_get, unwrap_or, Ok}
use Rattle.ref_draft.specs.declared.draft.Draft.{Draft}
use Rattle.ref_draft.specs.declared.draft.Draft.TheVariants.{Draft202012}
use Rattle.ref_draft.specs.Schema.{text_under}
use Rattle.ref_definitions.specs.World.{Document, Layer}
use Rattle.ref_reach.specs.Places.{Source, Place, AreOwn}
use Rattle.ref_reach.specs.Leading.{Known}
use Rattle.ref_reach.specs.Held.{parts_held, layer_held}
use Rattle.ref_reach.specs.Schemas.{AreSchemas}
use Rattle.ref_reach.specs.Reached.{AreReached, around_descriptions, around_schemas}
use Rattle.ref_bundle.specs.Needed.{Seen, Further, further_in}

-- ---- what is known of the documents

-- a document, as references are followed in it
abbrev pub source_of : Document → Source
source_of d = record { uri = d.uri; tree = d.tree }

-- the draft of a document that names none
abbrev pub unnamed_draft : Document → List Draft
unnamed_draft d = if is_some (text_under (codes "$schema") d.tree) then [] else d.draft ∷ []

-- the draft that such documents are read by: that of the first of them
abbrev pub draft_of : Layer → Draft
draft_of layer = unwrap_or (slice_get (flat_map unnamed_draft layer) 0) Draft202012

-- they are known as `ref_reach` knows documents
pub record IsKnown (layer : Layer) (known : Known) : Type 0 where
  pub uris : known.uris ≡ map (λ s. s.uri) (map source_of layer)
  pub trees : known.trees ≡ map (λ s. s.tree) (map source_of layer)
  pub own : AreOwn (map source_of layer) known.own
  pub parts : known.parts ≡ parts_held known.own
  pub held : known.layer ≡ layer_held (draft_of layer) (map source_of layer) known.own

-- ---- their further places

-- this many numbers, from 0 on
abbrev pub numbers_below : ℕ → List ℕ
numbers_below zero = []
numbers_below (suc n) = numbers_below n ++ n ∷ []

-- a place as a bundle sees it
abbrev pub seen_of : Place → Seen
seen_of p =
    record {
      document = p.document;
      path = p.path;
      value = p.value;
      draft = p.reading.draft;
      base = Ok p.base;
    }

-- the same, where it is in the document with a number
abbrev pub seen_in : ℕ → Place → List Seen
seen_in number p = if p.document == number then seen_of p ∷ [] else []

-- those that descriptions have by themselves, and these and those after them, document by document
pub record AreGrouped (known : Known) (described led : List Place) (further : Further) : Type 0 where
  pub all : (number : ℕ) → number < length known.uris
      → further_in further number ≡ flat_map (seen_in number) (known.own ++ described ++ led)
  pub no_more : length further ≡ length known.uris

-- The further places of documents that are known so: those that descriptions have by themselves, those that are reached from
-- these, and those that are reached from the schemas of all documents.
pub record AreFurtherIn (known : Known) (draft : Draft) (further : Further) : Type 0 where
  pub described : List Place
  pub from_descriptions : AreReached (around_descriptions known) described
  pub schemas : List Place
  pub are_schemas : AreSchemas known draft (numbers_below (length known.uris)) schemas
  pub led : List Place
  pub from_schemas : AreReached (around_schemas known schemas) led
  pub grouped : AreGrouped known described led further

-- the same of the documents of a layer
pub record AreFurther (layer : Layer) (further : Further) : Type 0 where
  pub known : Known
  pub is_known : IsKnown layer known
  pub are : AreFurtherIn known (draft_of layer) further
