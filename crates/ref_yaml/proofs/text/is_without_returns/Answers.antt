use Rattle.std.proofs.Common.{◌≡◌, ℕ, List, ◌+◌, ◌<◌, ◌∷◌, All, add-one, drop, drop-cons, get_or, length, arith}
use Rattle.std.proofs.lemmas.List.Elements.{All-cons, All-nil}
use Rattle.ref_yaml.specs.Passing.{IsNoReturn}
use Rattle.ref_yaml.proofs.text.is_without_returns.Goals as goal
use Rattle.ref_yaml.proofs.text.is_without_returns.Goals.{then-byte-eq13, else-byte-eq13}

pub loop-byte-preserved : goal.loop-byte-preserved
loop-byte-preserved c =
    let source = c.args.source.now in
    let at = c.loop-byte.byte-index in
    let b : ℕ = get_or source at 0 in
    let rest : List ℕ = drop (at + 1) source in
    let h : at < length source = omega arith in
    let d : drop at source ≡ b ∷ rest = rw (add-one, drop-cons source at 0) in
    elim c.if-byte-eq13.branch [
      | then-byte-eq13 w ↦ rw w.has_one-is (λ no. absurd (cc))
      | else-byte-eq13 w ↦ rw w.has_one-is (λ none more. c.loop-byte.invariant none (rw d (All-cons IsNoReturn b rest w.if-byte-eq13.false more)))
    ]
