-- The further places of the documents of a registry, with the kinds of objects that they are.
use Rattle.std.specs.Prelude.{◌≡◌, List, ◌++◌, length}
use Rattle.ref_definitions.specs.World.{Layer}
use Rattle.ref_reach.specs.Places.{Place}
use Rattle.ref_reach.specs.Leading.{Known}
use Rattle.ref_reach.specs.Schemas.{AreSchemas}
use Rattle.ref_reach.specs.Reached.{AreReached, around_descriptions, around_schemas}
use Rattle.ref_further.specs.Further.{IsKnown, draft_of, numbers_below}

-- The further places of the documents of a layer: those that descriptions have by themselves, those that are reached from these, and
-- those that are reached from the schemas of all documents
pub record IsSurvey (layer : Layer) (places : List Place) : Type 0 where
  pub known : Known
  pub is_known : IsKnown layer known
  pub described : List Place
  pub from_descriptions : AreReached (around_descriptions known) described
  pub schemas : List Place
  pub are_schemas : AreSchemas known (draft_of layer) (numbers_below (length known.uris)) schemas
  pub led : List Place
  pub from_schemas : AreReached (around_schemas known schemas) led
  pub all : places ≡ known.own ++ described ++ led
