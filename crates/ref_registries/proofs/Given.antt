-- Documents as a program has them, and as texts and trees.
use Rattle.std.proofs.Common.{◌≡◌, ℕ, List, [], ◌∷◌, map, refl, ap}
use Rattle.serde_json.specs.Data.{Data}
use Rattle.ref_definitions.specs.Pending.{with_additions}
use Rattle.ref_registries.specs.Worlds.{addition_of, pending_of}

fused : {A : Type 0} (seen : A → List ℕ × Data) (ds : List A) → map (λ d. addition_of (seen d)) ds ≡ map addition_of (map seen ds)
fused seen [] = refl
fused seen (d ∷ ds) = ap (λ xs. addition_of (seen d) ∷ xs) (fused seen ds)

pub pending_seen : {A : Type 0} (seen : A → List ℕ × Data) (ds : List A) → with_additions [] (map (λ d. addition_of (seen d)) ds) ≡ pending_of (map seen ds)
pending_seen seen ds = ap (with_additions []) (fused seen ds)
