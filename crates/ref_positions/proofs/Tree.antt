-- Each path but that of the whole value is below another one.
use Rattle.std.proofs.Common.{◌≡◌, ℕ, ◌+◌, ◌<◌, ◌≤◌, List, [], ◌∷◌, ◌++◌, Option, Some, None, length, get_or, zero, suc, refl, ap, sym, ◌∙◌, arith}
use Rattle.std.proofs.lemmas.Grind.{common_steps}
use Rattle.ref_positions.specs.Paths.{Step as PathStep, Path, number_of}
use Rattle.ref_positions.specs.Places.{paths_from, IsIndexed, IsTree}
use Rattle.ref_positions.specs.declared.places.Entry.{Entry}
use Rattle.ref_positions.specs.declared.places.Index.{Index}
use Rattle.ref_positions.proofs.Paths.{count, keeps, number_is, number_none, in_list, stood}

no_entry : (n : ℕ) → n < length {A = Entry} [] → ⊥
no_entry n h = omega arith

pub low_is : (es : List Entry) (n : ℕ) (q : Path) → get_or (paths_from [] es) n None ≡ Some q → n < length es
low_is es n q at =
    let within : n < length (paths_from [] es) = in_list (paths_from [] es) n q at in
    grind (arith, count [] es)

some_none : (o : Option ℕ) (n : ℕ) → o ≡ Some n → o ≡ None → ⊥
some_none o n h k = cc

pub above_is : (es : List Entry) (n : ℕ) (d : Entry) (s : PathStep) (p : Path) → get_or (paths_from [] es) n None ≡ Some (s ∷ p)
    → (n < length es) × ((get_or es n d).above < n) × (get_or (paths_from [] es) (get_or es n d).above None ≡ Some p)
above_is es n d s p at =
    let within : n < length (paths_from [] es) = in_list (paths_from [] es) n (s ∷ p) at in
    let low : n < length es = grind (arith, count [] es) in
    let parts = stood [] es n n d s p low (omega arith) at in
    (low, parts.0, parts.1)

pub tree_of : (es : List Entry) (index : Index) → IsIndexed es index → IsTree (paths_from [] es)
tree_of [] index is = absurd (no_entry 0 is.some)
tree_of (e ∷ es) index is =
    let paths = paths_from [] (e ∷ es) in
    let first : get_or paths 0 None ≡ Some [] = keeps (Some [] ∷ []) es 0 (omega arith) in
    record {
      whole = number_is paths [] 0 first (λ j g. is.distinct j 0 [] g first);
      closed = λ s p none. number_none paths (s ∷ p) (λ n at.
          let up = above_is (e ∷ es) n e s p at in
          let there : number_of paths p ≡ Some (get_or (e ∷ es) n e).above = number_is paths p _ up.2 (λ j g. is.distinct j _ p g up.2) in
          some_none (number_of paths p) (get_or (e ∷ es) n e).above there none);
      distinct = is.distinct;
    }
