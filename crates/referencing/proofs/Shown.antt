-- What a registry shows for debugging.
use Rattle.std.proofs.Common.{◌≡◌, subst, ℕ, ◌∷◌, ◌++◌, length, codes, decimal, append_assoc}
use Rattle.ref_definitions.specs.World.{Layer, World}
use Rattle.referencing.specs.Prepared.{registry_text}

pub counts_shown : (layer : Layer) (parents world : World) (documents count : ℕ) → layer ∷ parents ≡ world → documents ≡ length layer → count ≡ length parents
    → codes "Registry { documents: " ++ (decimal documents ++ (codes ", parents: " ++ (decimal count ++ codes " }"))) ≡ registry_text world
counts_shown layer parents world documents count is here above =
    subst (λ w. codes "Registry { documents: " ++ (decimal documents ++ (codes ", parents: " ++ (decimal count ++ codes " }"))) ≡ registry_text w) is (rw (here, above) (simp append_assoc))
