-- URIs that are written one after another, with a separator between them.
use Rattle.std.proofs.Common.{◌≡◌, ℕ, Bool, true, false, List, [], ◌∷◌, ◌++◌, codes, if◌then◌else◌, refl, ap}
use Rattle.std.specs.Fmt.{HasWritten, IsPlainFormatter}
use Rattle.std.specs.declared.fmt.Formatter.{Formatter}
use Rattle.std.specs.List.{flat_map, join_by}

-- what is still to be written
abbrev pub rest : Bool → List (List ℕ) → List ℕ
rest is_first [] = []
rest is_first (uri ∷ uris) = ((if is_first then [] else codes ", ") ++ uri) ++ rest false uris

behind : (uris : List (List ℕ)) → rest false uris ≡ flat_map (λ uri. codes ", " ++ uri) uris
behind [] = refl
behind (uri ∷ uris) = ap (λ text. (codes ", " ++ uri) ++ text) (behind uris)

pub all_of_them : (uris : List (List ℕ)) → rest true uris ≡ join_by (λ uri. uri) (codes ", ") uris
all_of_them [] = refl
all_of_them (uri ∷ uris) = ap (λ text. uri ++ text) (behind uris)

-- nothing is written yet
module _ {W : Type 0} (took : W → List ℕ → W → Type 0) where
  pub nothing_written : (f : Formatter W) → IsPlainFormatter f → HasWritten took f [] f
  nothing_written f plain = record { wrote = record { parts = []; calls = refl; whole = refl }; plain = plain }
