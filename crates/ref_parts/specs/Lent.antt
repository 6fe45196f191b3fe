-- What a small map ends as, once a `&mut` to a value in it has ended.
use Rattle.std.specs.Prelude.{◌≡◌, List, Result}
use Rattle.std.specs.Borrow.{Fml, RattleType, MutBor, LendsSoOk}
use Rattle.std.specs.HashMap.Lent.{HashMembers}
use Rattle.ref_parts.specs.FiniteMap.{Puts}
use Rattle.ref_parts.specs.contracts.small_map.SmallMap as small_map

module _ (K V N : RattleType) (key : HashMembers K.Denot) where
  -- the map has at the key the last value written through r, and at `Err` it stays as it is
  abbrev pub lends_value : {E : Type 0} → MutBor (List (K.Denot × V.Denot)) → K.Denot
      → Result (MutBor V.Denot) E → Fml
  lends_value map at r =
      LendsSoOk
      (small_map.the_row K V N (record { eq = key.eq })
      (record { hash_input = key.hash_input })) V map r
      (λ n w. Puts key.eq map.now n at w) (λ n. n ≡ map.now)
