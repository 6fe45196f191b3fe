-- The entries of the map of pending documents are the pending documents of the definition.
use Rattle.std.proofs.Common.{◌≡◌, refl, sym, ◌∙◌, ap, subst, ℕ, Bool, true, false, cond, List, [], ◌∷◌, ◌++◌, map, bytes_eq}
use Rattle.std.specs.List.{list_any, AllByRecursion, IsDistinct}
use Rattle.std.specs.Cmp.Lexicographic.{nat_list_eq_equiv}
use Rattle.std.specs.Map.{keys_of}
use Rattle.std.proofs.lemmas.Slice.Eq.{bytes_eq-Decides}
use Rattle.indexmap.specs.IndexMap.{insert_entry}
use Rattle.ref_definitions.specs.Pending.{Pending, with_pending}
use Rattle.referencing.specs.declared.input.PendingResource.{PendingResource}
use Rattle.referencing.specs.Builder.{pending_under}

abbrev Entries : Type 0
Entries = List (List ℕ × PendingResource)

abbrev swapped : Pending → List Pending → List Pending
swapped p ps = map (λ e. cond (bytes_eq e.uri p.uri) p e) ps

abbrev put : Pending → List Pending → List Pending
put p ps = cond (list_any (λ e. bytes_eq e.uri p.uri) ps) (swapped p ps) (ps ++ p ∷ [])

other_way : (a b : List ℕ) (t : Bool) → bytes_eq a b ≡ t → bytes_eq b a ≡ t
other_way a b t is = nat_list_eq_equiv.symm b a ∙ is

none_swapped : (p : Pending) (es : Entries) → AllByRecursion (λ u. bytes_eq p.uri u ≡ false) (keys_of es) → swapped p (map pending_under es) ≡ map pending_under es
none_swapped p [] none = refl
none_swapped p (e ∷ es) none =
    let here : cond (bytes_eq e.0 p.uri) p (pending_under e) ≡ pending_under e = ap (λ t. cond t p (pending_under e)) (other_way p.uri e.0 false none.0) in
    ap (λ x. x ∷ swapped p (map pending_under es)) here ∙ ap (λ xs. pending_under e ∷ xs) (none_swapped p es none.1)

put_after : (p u : Pending) (ps : List Pending) (any : Bool) → cond any (u ∷ swapped p ps) (u ∷ (ps ++ p ∷ [])) ≡ u ∷ cond any (swapped p ps) (ps ++ p ∷ [])
put_after p u ps true = refl
put_after p u ps false = refl

put_at : (p u : Pending) (ps : List Pending) (t : Bool) → bytes_eq u.uri p.uri ≡ t → put p (u ∷ ps) ≡ cond t (p ∷ swapped p ps) (u ∷ put p ps)
put_at p u ps true is = rw is refl
put_at p u ps false is = rw is (put_after p u ps (list_any (λ e. bytes_eq e.uri p.uri) ps))

put_step : (e : List ℕ × PendingResource) (es : Entries) (k : List ℕ) (v : PendingResource) (t : Bool) → bytes_eq k e.0 ≡ t
    → (IsDistinct bytes_eq (keys_of (insert_entry bytes_eq es k v)) → map pending_under (insert_entry bytes_eq es k v) ≡ put (pending_under (k, v)) (map pending_under es))
    → IsDistinct bytes_eq (keys_of (cond t ((e.0, v) ∷ es) (e ∷ insert_entry bytes_eq es k v)))
    → map pending_under (cond t ((e.0, v) ∷ es) (e ∷ insert_entry bytes_eq es k v)) ≡ put (pending_under (k, v)) (map pending_under (e ∷ es))
unfolding IsDistinct
put_step e es k v true is later apart =
    let same : e.0 ≡ k = sym ((bytes_eq-Decides k e.0).0 is) in
    let p = pending_under (k, v) in
    ap (λ u. pending_under (u, v) ∷ map pending_under es) same
    ∙ ap (λ xs. p ∷ xs) (sym (none_swapped p es (subst (λ u. AllByRecursion (λ y. bytes_eq u y ≡ false) (keys_of es)) same apart.0)))
    ∙ sym (put_at p (pending_under e) (map pending_under es) true (other_way k e.0 true is))
put_step e es k v false is later apart =
    let p = pending_under (k, v) in
    ap (λ xs. pending_under e ∷ xs) (later apart.1)
    ∙ sym (put_at p (pending_under e) (map pending_under es) false (other_way k e.0 false is))

put_all : (es : Entries) (k : List ℕ) (v : PendingResource) → IsDistinct bytes_eq (keys_of (insert_entry bytes_eq es k v)) → map pending_under (insert_entry bytes_eq es k v) ≡ put (pending_under (k, v)) (map pending_under es)
put_all [] k v apart = refl
put_all (e ∷ es) k v apart = put_step e es k v (bytes_eq k e.0) refl (put_all es k v) apart

-- an entry that is put is where the definition has it
pub entries_put : (es : Entries) (k : List ℕ) (v : PendingResource) → IsDistinct bytes_eq (keys_of (insert_entry bytes_eq es k v)) → map pending_under (insert_entry bytes_eq es k v) ≡ with_pending (map pending_under es) (pending_under (k, v))
unfolding with_pending
entries_put es k v apart = put_all es k v apart
