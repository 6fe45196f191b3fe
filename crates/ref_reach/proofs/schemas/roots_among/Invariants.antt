use Rattle.std.proofs.Common.{◌≡◌, map, flat_map, take}
use Rattle.ref_reach.specs.Schemas.{schema_root_in}
use Rattle.ref_reach.specs.Views.{place_of}
use Rattle.ref_reach.specs.Knowing.{known_of}
use Rattle.ref_reach.proofs.schemas.roots_among.Given as goal

abbrev pub invariant-loop-number : goal.invariant-loop-number
invariant-loop-number l = map place_of l.places.items ≡ flat_map (schema_root_in (known_of l.documents) l.draft) (take l.number-index l.numbers)
