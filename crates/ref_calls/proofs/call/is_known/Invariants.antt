use Rattle.std.proofs.Common.{◌≡◌, map, drop, bytes_eq}
use Rattle.std.specs.List.{list_any}
use Rattle.ref_calls.proofs.call.is_known.Given as goal

abbrev pub invariant-loop-known : goal.invariant-loop-known
invariant-loop-known l =
    list_any (λ known. bytes_eq known l.field) (map (λ k. k.now) (drop l.known-index l.known-items)) ≡ list_any (λ known. bytes_eq known l.field) (map (λ k. k.now) l.known-items)
