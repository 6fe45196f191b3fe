-- A value that is no object has no members out of order.
use Rattle.std.proofs.Common.{◌≡◌, None}
use Rattle.serde_json.specs.Data.{Data}
use Rattle.serde_json.specs.Find.{as_object}
use Rattle.ref_draft.specs.Children.{InKeyOrder}
use Rattle.ref_draft.proofs.Order as order

pub ordered_other : (t : Data) → None ≡ as_object t → InKeyOrder t
ordered_other t is = order.ordered_other t is
