use Rattle.std.proofs.Common.{ℕ, cond, ltb, ◌≡◌, map, refl, sym, arith}
use Rattle.std.proofs.lemmas.List.{map-id}
use Rattle.std.proofs.lemmas.Simd.{zip2_of_maps, splat_is_map, length-chunk}
use lib.Lanes.{chunk}
use Rattle.ref_uri.specs.Characters.{is_path_character}
use Rattle.ref_uri.proofs.LaneLemmas.{all_pass}
use Rattle.ref_uri.proofs.characters.is_plain_block.Goals as goal

pub returns : goal.returns
returns c none =
    let v = chunk c.args.at 16 c.args.bytes.now in
    let long = length-chunk c.args.at 16 c.args.bytes.now c.requires in
    let whole : v ≡ map (λ x. x) v = sym (map-id v) in
    all_pass is_path_character c.args.bytes.now c.args.at 16 _ c.requires (omega arith) c.type_inv.bytes none _
    (zip2_of_maps {X = ℕ} {Y = ℕ} {Z = ℕ} _ _ _ v
    (zip2_of_maps {X = ℕ} {Y = ℕ} {Z = ℕ} _ _ _ v
    (zip2_of_maps {X = ℕ} {Y = ℕ} {Z = ℕ} (λ a b. cond (ltb a b) 255 0) _ _ v (splat_is_map v 16 25 long) (zip2_of_maps {X = ℕ} {Y = ℕ} {Z = ℕ} _ _ _ v (zip2_of_maps {X = ℕ} {Y = ℕ} {Z = ℕ} _ _ _ v whole (splat_is_map v 16 32 long)) (splat_is_map v 16 97 long)))
    (zip2_of_maps {X = ℕ} {Y = ℕ} {Z = ℕ} (λ a b. cond (ltb a b) 255 0) _ _ v (splat_is_map v 16 21 long) (zip2_of_maps {X = ℕ} {Y = ℕ} {Z = ℕ} _ _ _ v whole (splat_is_map v 16 38 long))))
    (zip2_of_maps {X = ℕ} {Y = ℕ} {Z = ℕ} _ _ _ v whole (splat_is_map v 16 95 long)))
    refl
