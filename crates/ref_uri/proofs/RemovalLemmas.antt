-- A path that is written segment by segment.
use Rattle.std.proofs.Common.{◌≡◌, List, ℕ, [], ◌∷◌, ◌++◌, refl}
use Rattle.ref_uri.specs.inner.Removal.{path_then, progress_then, path_after, progress_after}
use Rattle.ref_uri.specs.declared.dots.Progress.{Progress}

-- one segment more
pub path_after-push : (progress : Progress) (path : List ℕ) (segments : List (List ℕ)) (segment : List ℕ) → path_after progress path (segments ++ segment ∷ []) ≡ path_then (progress_after progress segments) (path_after progress path segments) segment
path_after-push progress path [] segment = refl
path_after-push progress path (first ∷ rest) segment = path_after-push (progress_then progress first) (path_then progress path first) rest segment

pub progress_after-push : (progress : Progress) (segments : List (List ℕ)) (segment : List ℕ) → progress_after progress (segments ++ segment ∷ []) ≡ progress_then (progress_after progress segments) segment
progress_after-push progress [] segment = refl
progress_after-push progress (first ∷ rest) segment = progress_after-push (progress_then progress first) rest segment

-- the segments of two parts
pub path_after-append : (progress : Progress) (path : List ℕ) (front rest : List (List ℕ)) → path_after progress path (front ++ rest) ≡ path_after (progress_after progress front) (path_after progress path front) rest
path_after-append progress path [] rest = refl
path_after-append progress path (first ∷ front) rest = path_after-append (progress_then progress first) (path_then progress path first) front rest

pub progress_after-append : (progress : Progress) (front rest : List (List ℕ)) → progress_after progress (front ++ rest) ≡ progress_after (progress_after progress front) rest
progress_after-append progress [] rest = refl
progress_after-append progress (first ∷ front) rest = progress_after-append (progress_then progress first) front rest
