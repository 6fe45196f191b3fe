use Rattle.std.proofs.Common.{◌≡◌, ◌≢◌, ◌≤◌, ℕ, List, ◌+◌, ◌<◌, ◌∷◌, [], ◌++◌, All, add-one, drop, drop-cons, get_or, length, option_map, take, arith}
use Rattle.std.proofs.lemmas.List.{take_more}
use Rattle.std.proofs.lemmas.List.Elements.{All-cons}
use Rattle.ref_yaml.specs.Escapes.{unescaped}
use Rattle.ref_yaml.specs.Passing.{IsWithoutMark}
use Rattle.ref_yaml.proofs.Texts.{in_line, outside_more, same}
use Rattle.ref_yaml.proofs.escape.outside_len.Goals as goal

pub loop-at-preserved : goal.loop-at-preserved
loop-at-preserved c =
    let source = c.args.source.now in
    let l = c.loop-at in
    let at = l.at in
    let b : ℕ = get_or source at 0 in
    let rest : List ℕ = drop (at + 1) source in
    let h : at < length source = omega arith in
    let d : drop at source ≡ b ∷ rest = rw (add-one, drop-cons source at 0) in
    let t : take (at + 1) source ≡ take at source ++ b ∷ [] = take_more source at 0 h in
    let apart : b ≢ 92 = c.if-byte-eq92.false in
    let line : IsWithoutMark 10 b = in_line b (omega arith) in
    ((λ more. l.invariant.0 (rw d (All-cons (IsWithoutMark 10) b rest line more))), rw t (outside_more (take at source) rest b (unescaped source) apart (rw d at l.invariant.1)))
