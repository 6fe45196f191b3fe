-- The pointer of steps, one after another.
use Rattle.std.proofs.Common.{◌≡◌, ◌<◌, ◌+◌, ℕ, List, [], ◌∷◌, ◌++◌, length, take, get_or, map, ap, ◌∙◌}
use Rattle.std.proofs.lemmas.List.{take_more, map-append, append-nil}
use Rattle.std.proofs.lemmas.Grind.{flat_map-append}
use Rattle.ref_paths.specs.Path.{Part}
use Rattle.ref_parts.specs.Pointer.{part_text, pointer_text}
use Rattle.ref_positions.specs.declared.part.Step.{Step}
use Rattle.ref_outline.specs.Steps.{part_of}

-- a step more
pub one_step : (steps : List Step) (i : ℕ) (d : Step) → i < length steps → pointer_text (map part_of (take (i + 1) steps)) ≡ pointer_text (map part_of (take i steps)) ++ 47 ∷ part_text (part_of (get_or steps i d))
one_step steps i d h =
    ap (λ l. pointer_text (map part_of l)) (take_more steps i d h)
    ∙ ap pointer_text (map-append part_of (take i steps) (get_or steps i d ∷ []))
    ∙ flat_map-append (λ (part : Part). 47 ∷ part_text part) (map part_of (take i steps)) (part_of (get_or steps i d) ∷ [])
    ∙ ap (λ l. pointer_text (map part_of (take i steps)) ++ l) (append-nil (47 ∷ part_text (part_of (get_or steps i d))))
