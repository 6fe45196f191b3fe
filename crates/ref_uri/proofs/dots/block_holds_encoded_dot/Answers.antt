use Rattle.std.proofs.Common.{ℕ, ◌≡◌, ◌-◌, ◌+◌, get_or, sym, ap, ◌∙◌, arith}
use Rattle.std.proofs.lemmas.Bool.{not-false, false≢true, eqb-true}
use Rattle.std.proofs.lemmas.List.{map-id}
use Rattle.std.proofs.lemmas.Simd.{zip2_of_maps, splat_is_map, length-chunk, get_or-chunk}
use lib.Lanes.{chunk}
use Rattle.ref_uri.proofs.LaneLemmas.{joined_lanes}
use Rattle.ref_uri.proofs.dots.block_holds_encoded_dot.Goals as goal

pub returns : goal.returns
returns c none k from to percent two =
    let d = c.args.bytes.now in
    let i = k - c.args.at in
    let x = chunk c.args.at 16 d in
    let y = chunk (c.args.at + 1) 16 d in
    let w = chunk (c.args.at + 2) 16 d in
    let lx = length-chunk c.args.at 16 d (omega arith) in
    let ly = length-chunk (c.args.at + 1) 16 d (omega arith) in
    let lw = length-chunk (c.args.at + 2) 16 d (omega arith) in
    let at0 : c.args.at + i ≡ k = omega arith in
    let at1 : c.args.at + 1 + i ≡ k + 1 = omega arith in
    let at2 : c.args.at + 2 + i ≡ k + 2 = omega arith in
    let clear = joined_lanes _ _ _ _ x y w _ _ _ 16 (omega arith) lx ly lw
    (zip2_of_maps {X = ℕ} {Y = ℕ} {Z = ℕ} _ _ _ x (sym (map-id x)) (splat_is_map x 16 37 lx))
    (zip2_of_maps {X = ℕ} {Y = ℕ} {Z = ℕ} _ _ _ y (sym (map-id y)) (splat_is_map y 16 50 ly))
    (zip2_of_maps {X = ℕ} {Y = ℕ} {Z = ℕ} _ _ _ w (zip2_of_maps {X = ℕ} {Y = ℕ} {Z = ℕ} _ _ _ w (sym (map-id w)) (splat_is_map w 16 32 lw)) (splat_is_map w 16 101 lw))
    (eqb-true _ 0 (not-false _ none)) in
    let first = get_or-chunk c.args.at 16 d i 0 (omega arith) ∙ ap (λ j. get_or d j 0) at0 ∙ percent in
    let second = get_or-chunk (c.args.at + 1) 16 d i 0 (omega arith) ∙ ap (λ j. get_or d j 0) at1 ∙ two in
    let third = get_or-chunk (c.args.at + 2) 16 d i 0 (omega arith) ∙ ap (λ j. get_or d j 0) at2 in (
      λ lower. false≢true (sym (clear i 37 50 101 (omega arith) first second (third ∙ lower))),
      λ upper. false≢true (sym (clear i 37 50 69 (omega arith) first second (third ∙ upper))),
    )
