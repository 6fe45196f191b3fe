use Rattle.std.proofs.Common.{refl}
use Rattle.ref_parts.proofs.laws.list_rows.Goals as goal

pub returns : goal.returns
returns c = record { rows = record { nothing_held = refl; one_held = λ item. refl; no_items = refl; three_items = λ node. refl; nothing_left = refl; one_left = λ item. refl } }
