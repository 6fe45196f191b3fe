-- From the empty mask of one load to the bytes that pass a test.
use Rattle.std.proofs.Common.{◌≡◌, ℕ, ◌+◌, ◌-◌, ◌%◌, ◌^◌, ◌<◌, ◌≤◌, eqb, Bool, true, false, not, ◌||◌, List, map, length, get_or, Fits, w8, sym, ap, ◌∙◌, subst, arith}
use Rattle.std.proofs.lemmas.Bool.{agree_below, agree_below_at, not-true, eqb-true}
use Rattle.std.proofs.lemmas.Simd.{map-map, mask_l-mod, length-chunk, length-zip2, get_or-chunk, get_or-zip2, leading_from_mask_l}
use Rattle.std.proofs.lemmas.List.{length-map, get_or-map}
use Rattle.std.proofs.lemmas.List.Sums.{prefix_len_passes}
use lib.Lanes.{chunk, mask_l, top, zip2}

-- no lane is set, and each byte whose lane is not set passes q
pub all_pass : (q : ℕ → Bool) (d : List ℕ) (i n : ℕ) (z : List ℕ) → i + n ≤ length d → n ≤ 64 → ((k : ℕ) → Fits w8 (get_or d k 0))
    → eqb (mask_l (map (top 7) z) % 2 ^ 64) 0 ≡ true → (f : ℕ → ℕ) → z ≡ map f (chunk i n d)
    → agree_below (λ x. top 7 (f x) || q x) (λ _. true) 256 ≡ true → (k : ℕ) → i ≤ k → k < i + n → q (get_or d k 0) ≡ true
all_pass q d i n z room few fits none f lanes all k from to =
    let v = chunk i n d in
    let long = length-chunk i n d room in
    let mask = ap (λ l. mask_l l % 2 ^ 64) (ap (map (top 7)) lanes ∙ map-map (top 7) f v) ∙ mask_l-mod (map (λ x. top 7 (f x)) v) 64 (omega (arith, length-map v (λ x. top 7 (f x)))) in
    let whole = leading_from_mask_l (λ x. top 7 (f x)) v (sym mask ∙ eqb-true _ 0 none) in
    let back : i + (k - i) ≡ k = omega arith in
    let at = get_or-chunk i n d (k - i) 0 (omega arith) ∙ ap (λ j. get_or d j 0) back in
    let clear = subst (λ x. top 7 (f x) ≡ false) at (not-true _ (prefix_len_passes (λ x. not (top 7 (f x))) v (k - i) 0 (omega arith))) in
    sym (ap (λ b. b || q (get_or d k 0)) clear) ∙ agree_below_at (λ x. top 7 (f x) || q x) (λ _. true) 256 (get_or d k 0) all (fits k).fits

-- no lane is set
none_set : (z : List ℕ) (n : ℕ) → length z ≡ n → n ≤ 64 → mask_l (map (top 7) z) % 2 ^ 64 ≡ 0 → (i : ℕ) → i < n → top 7 (get_or z i 0) ≡ false
none_set z n long few none i lt =
    let mask = sym (mask_l-mod (map (top 7) z) 64 (omega (arith, length-map z (top 7)))) ∙ none in
    let whole = leading_from_mask_l (top 7) z mask in
    not-true _ (prefix_len_passes (λ x. not (top 7 x)) z i 0 (omega arith))

-- no lane is set in which three vectors are joined, and so at no place what becomes of their bytes there
pub joined_lanes : (join : ℕ → ℕ → ℕ) (f g h : ℕ → ℕ) (x y w p t e : List ℕ) (n : ℕ) → n ≤ 64 → length x ≡ n → length y ≡ n → length w ≡ n → p ≡ map f x → t ≡ map g y → e ≡ map h w
    → mask_l (map (top 7) (zip2 join (zip2 join p t) e)) % 2 ^ 64 ≡ 0
    → (i a b c : ℕ) → i < n → get_or x i 0 ≡ a → get_or y i 0 ≡ b → get_or w i 0 ≡ c → top 7 (join (join (f a) (g b)) (h c)) ≡ false
joined_lanes join f g h x y w p t e n few lx ly lw px ty ew none i a b c lt xa yb wc =
    let lp : length p ≡ n = ap length px ∙ length-map x f ∙ lx in
    let lt2 : length t ≡ n = ap length ty ∙ length-map y g ∙ ly in
    let le : length e ≡ n = ap length ew ∙ length-map w h ∙ lw in
    let lpt : length (zip2 join p t) ≡ n = length-zip2 join p t (lp ∙ sym lt2) ∙ lp in
    let lz : length (zip2 join (zip2 join p t) e) ≡ n = length-zip2 join (zip2 join p t) e (lpt ∙ sym le) ∙ lpt in
    let pa : get_or p i 0 ≡ f a = ap (λ l. get_or l i 0) px ∙ get_or-map f x i 0 0 (omega arith) ∙ ap f xa in
    let tb : get_or t i 0 ≡ g b = ap (λ l. get_or l i 0) ty ∙ get_or-map g y i 0 0 (omega arith) ∙ ap g yb in
    let ec : get_or e i 0 ≡ h c = ap (λ l. get_or l i 0) ew ∙ get_or-map h w i 0 0 (omega arith) ∙ ap h wc in
    let both : get_or (zip2 join p t) i 0 ≡ join (f a) (g b) = get_or-zip2 join p t i 0 0 0 (omega arith) (omega arith) ∙ ap (λ u. join u (get_or t i 0)) pa ∙ ap (join (f a)) tb in
    let all : get_or (zip2 join (zip2 join p t) e) i 0 ≡ join (join (f a) (g b)) (h c) =
    get_or-zip2 join (zip2 join p t) e i 0 0 0 (omega arith) (omega arith) ∙ ap (λ u. join u (get_or e i 0)) both ∙ ap (join (join (f a) (g b))) ec in
    ap (top 7) (sym all) ∙ none_set (zip2 join (zip2 join p t) e) n lz few none i lt
