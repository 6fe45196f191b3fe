-- The path of names below a folder, one name more at a time.
use Rattle.std.proofs.Common.{◌≡◌, ℕ, List, [], ◌∷◌, ◌++◌, refl}
use Rattle.ref_files.specs.Plain.{path_in, path_of}

pub path_of_more : (folder : List ℕ) (names : List (List ℕ)) (name : List ℕ) → path_of folder (names ++ name ∷ []) ≡ path_in (path_of folder names) name
path_of_more folder [] name = refl
path_of_more folder (n ∷ names) name = path_of_more (path_in folder n) names name
