use Rattle.std.proofs.Common.{◌≢◌, ℕ, ◌<◌, ◌≤◌, List, true, false, ltb, get_or, refl, arith, ◌≡◌}
use Rattle.std.proofs.lemmas.Bool.{ltb-true, ltb-false}
use Rattle.ref_uri.proofs.blocks.short_holds.Goals as goal

-- a place before another one or not
either : (byte k last : ℕ) (bytes : List ℕ) → (k < last → get_or bytes k 0 ≢ byte) → (last ≤ k → get_or bytes k 0 ≢ byte) → get_or bytes k 0 ≢ byte
either byte k last bytes below above =
    elim (ltb k last) as (λ b. ltb k last ≡ b → get_or bytes k 0 ≢ byte) [
      | true ↦ λ yes. below (ltb-true k last yes)
      | false ↦ λ no. above (ltb-false k last no)
    ] refl

pub returns : goal.returns
returns c none = λ k less.
    either c.args.byte k 8 c.args.bytes.now (λ under. c.half_holds.ensures c.if-half_holds.false k (omega arith) under) (λ over. c.half_holds-2.ensures none k (omega (arith, over)) (omega (arith, less)))
