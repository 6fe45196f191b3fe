-- Paths, part by part: as they are written, and the values that they lead to.
use Rattle.std.proofs.Common.{◌≡◌, List, [], ◌∷◌, ◌++◌, Option, sym, ap}
use Rattle.std.specs.Prelude.{option_and_then}
use Rattle.std.proofs.lemmas.List.{flat_map_more}
use Rattle.serde_json.specs.Data.{Data}
use Rattle.ref_paths.specs.Path.{Part, Key, Index, HasFittingIndexes, child_at, value_at}
use Rattle.ref_parts.specs.Pointer.{slash, part_text, pointer_text}

pub text_more : (path : List Part) (p : Part) → pointer_text path ++ slash ∷ part_text p ≡ pointer_text (path ++ p ∷ [])
text_more path p = flat_map_more (λ part. slash ∷ part_text part) [] path p

pub fits_more : (path : List Part) (p : Part) → HasFittingIndexes path → HasFittingIndexes (p ∷ []) → HasFittingIndexes (path ++ p ∷ [])
fits_more [] p front last = last
fits_more (Key k ∷ path) p front last = fits_more path p front last
fits_more (Index i ∷ path) p front last = (front.0, fits_more path p front.1 last)

-- the value at a path is that at its rest, from where its first part leads to
pub stepped : (d : Data) (part : Part) (rest : List Part) (o : Option Data) → o ≡ child_at d part → value_at d (part ∷ rest) ≡ option_and_then (λ e. value_at e rest) o
stepped d part rest o is = ap (option_and_then (λ e. value_at e rest)) (sym is)
