use Rattle.std.proofs.Common.{◌≡◌, ℕ, ◌+◌, ◌-◌, List, ◌++◌, length, take, drop, sym, ap, ◌∙◌, arith}
use Rattle.std.proofs.lemmas.List.{take-append-drop, take-append-le, length-drop, length-append, drop-drop, drop_all}
use Rattle.std.proofs.lemmas.Grind.{common_steps}
use Rattle.std.proofs.Math.Seq.{take-length}
use Rattle.ref_streams.proofs.source.MemorySourceSource.read.Goals as goal

take-front : (n : ℕ) (ys zs : List ℕ) → length ys ≡ n → take n (ys ++ zs) ≡ ys
take-front n ys zs h = take-append-le n ys zs (omega arith) ∙ ap (λ k. take k ys) (sym h) ∙ take-length ys

take-rest : (p : ℕ) (xs : List ℕ) → take (length xs - p) (drop p xs) ≡ drop p xs
take-rest p xs = ap (λ k. take k (drop p xs)) (sym (length-drop p xs)) ∙ take-length (drop p xs)

pub returns-clause-bytes : goal.returns-clause-bytes
returns-clause-bytes c =
    let p = c.args.self.now.position in
    let n = c.min-n.result in
    let xs = c.args.self.now.bytes.now in
    let new = c.copy_from_slice.new.self in
    let given : new ≡ take n (drop p xs) = c.copy_from_slice.ensures.after ∙ ap (λ ys. take n ys) (take-rest p xs) in
    let long : length new ≡ n = grind (arith, common_steps) in
    let front : take n (new ++ drop n c.args.buffer.now) ≡ take n (drop p xs) = take-front n new (drop n c.args.buffer.now) long ∙ given in
    let split : drop p xs ≡ take n (drop p xs) ++ drop (p + n) xs = sym (take-append-drop n (drop p xs)) ∙ ap (λ ys. take n (drop p xs) ++ ys) (drop-drop n p xs) in (
      split ∙ ap (λ ys. ys ++ drop (p + n) xs) (sym front),
      λ none room. drop_all (p + n) xs (omega (arith, long, length-append new (drop n c.args.buffer.now), length-drop n c.args.buffer.now, length-drop p xs)),
    )
