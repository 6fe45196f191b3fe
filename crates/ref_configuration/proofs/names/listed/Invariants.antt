use Rattle.std.proofs.Common.{◌≡◌, ◌++◌, map, drop, string_bytes}
use Rattle.ref_configuration.specs.Names.{listed}
use Rattle.ref_configuration.proofs.names.listed.Given as goal

abbrev pub invariant-loop-number : goal.invariant-loop-number
invariant-loop-number l =
    string_bytes l.text ++ listed (map (λ n. n.now) (drop l.number l.names)) ≡ listed (map (λ n. n.now) l.names)
