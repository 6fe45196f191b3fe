-- Tables whose values are seen in another way.
use Rattle.std.proofs.Common.{◌≡◌, ℕ, Bool, true, false, List, [], ◌∷◌, ◌++◌, map, filter, cond, Option, None, Some, option_map, refl, ap, sym, ◌∙◌}
use Rattle.std.specs.List.{last_or}
use Rattle.ref_parts.specs.Table.{Entry, is_under, last_value}

-- an entry whose value is seen so
abbrev pub seen : {V W : Type 0} → (V → W) → Entry V → Entry W
seen v e = (e.0, e.1, v e.2)

filter_seen : {V W : Type 0} (v : V → W) (first second : List ℕ) (es : List (Entry V))
    → filter (is_under first second) (map (seen v) es) ≡ map (seen v) (filter (is_under first second) es)
filter_seen {V} {W} v first second [] = refl
filter_seen {V} {W} v first second (e ∷ es) = by_test (is_under first second e) (filter (is_under first second) (map (seen v) es)) (filter (is_under first second) es) (filter_seen v first second es)
  where
    by_test : (b : Bool) (l : List (Entry W)) (k : List (Entry V)) → l ≡ map (seen v) k → cond b (seen v e ∷ l) l ≡ map (seen v) (cond b (e ∷ k) k)
    by_test true l k same = ap (λ l. seen v e ∷ l) same
    by_test false l k same = same

last_mapped : {X Y : Type 0} (f : X → Y) (o : Option X) (xs : List X) → last_or (option_map f o) (map f xs) ≡ option_map f (last_or o xs)
last_mapped f o [] = refl
last_mapped f o (x ∷ xs) = last_mapped f (Some x) xs

value_seen : {V W : Type 0} (v : V → W) (o : Option (Entry V)) → option_map (λ (e : Entry W). e.2) (option_map (seen v) o) ≡ option_map v (option_map (λ (e : Entry V). e.2) o)
value_seen v None = refl
value_seen v (Some e) = refl

-- the last under two texts
pub last_seen : {V W : Type 0} (v : V → W) (first second : List ℕ) (es : List (Entry V))
    → last_value first second (map (seen v) es) ≡ option_map v (last_value first second es)
last_seen {V} {W} v first second es =
    let found = filter (is_under first second) es in
    ap (λ l. option_map (λ (e : Entry W). e.2) (last_or None l)) (filter_seen v first second es)
    ∙ ap (option_map (λ (e : Entry W). e.2)) (last_mapped (seen v) None found)
    ∙ value_seen v (last_or None found)
