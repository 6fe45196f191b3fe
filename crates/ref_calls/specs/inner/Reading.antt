-- What the reading of documents gives.
use Rattle.std.specs.Prelude.{ℕ, List, map, Option, Result, Ok, Err, Vec}
use Rattle.std.specs.declared.alloc.Global.{Global}
use Rattle.serde_json.specs.Data.{Data}
use Rattle.serde_json.specs.View.{view}
use Rattle.serde_json.specs.declared.value.Value.{Value}
use Rattle.ref_json.specs.declared.stop.Stop.{Stop}
use Rattle.ref_json.specs.declared.stop.Stop.TheVariants.{Memory, Because}
use Rattle.ref_calls.specs.Yaml.{AreRead, IsItemError, IsMemberRead, IsMemberError}

-- the items of a list of documents that are read, unless memory ran out
abbrev pub GivesList : List Data → Result (Vec Value Global) (Stop Value) → Type 0
GivesList ds (Ok v) = AreRead ds (map view v.items)
GivesList ds (Err Memory) = Unit {0}
GivesList ds (Err (Because value)) = IsItemError ds (view value)

-- the same of the list under a member
abbrev pub GivesMember : {U : Type 0} → List ℕ → Option Data → Option Data → Result U (Stop Value) → Type 0
GivesMember field before after (Ok done) = IsMemberRead field before after
GivesMember field before after (Err Memory) = Unit {0}
GivesMember field before after (Err (Because value)) = IsMemberError field before (view value)
