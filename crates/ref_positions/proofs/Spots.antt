-- The position of what was located.
use Rattle.std.proofs.Common.{◌≡◌, ℕ, List, Option, Some, None, option_map, length, min, refl}
use Rattle.ref_positions.specs.Located.{IsSpot}
use Rattle.ref_positions.specs.declared.position.Position.{Position}

pub spot_at : (text : List ℕ) (o : Option (ℕ × ℕ)) (m : ℕ × ℕ) (p : Position) → o ≡ Some m → p.text.now ≡ text → p.offset ≡ min m.1 (length text) → IsSpot text (option_map (λ at. at.1) o) (Some p)
spot_at text o m p is same at = rw is (p, refl, same, at)
