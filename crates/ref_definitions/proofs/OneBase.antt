-- The base at a path is one.
use Rattle.std.proofs.Common.{◌≡◌, ℕ, List, [], ◌∷◌, ◌++◌, Some, Ok, refl, sym, ap, subst, ◌∙◌}
use Rattle.serde_json.specs.Data.{Data}
use Rattle.ref_paths.specs.Path.{Part, value_at}
use Rattle.ref_draft.specs.declared.draft.Draft.{Draft}
use Rattle.ref_uri.specs.Targets.{uri_against}
use Rattle.ref_definitions.specs.Bases.{Along}
use Rattle.ref_definitions.specs.Changes.{IsChange, Stays, IsBaseAlong, begun, stayed, changed}

no_last : (p : List Part) (x : Part) → ¬ ([] ≡ p ++ x ∷ [])
no_last [] x same = cc
no_last (y ∷ p) x same = cc

same_front : (p q : List Part) (x y : Part) → p ++ x ∷ [] ≡ q ++ y ∷ [] → p ≡ q
same_front [] [] x y same = refl
same_front [] (z ∷ q) x y same = absurd (no_last q y (let e : [] ≡ q ++ y ∷ [] = cc in e))
same_front (z ∷ p) [] x y same = absurd (no_last p x (let e : [] ≡ p ++ x ∷ [] = cc in e))
same_front (z ∷ p) (w ∷ q) x y same =
    let first : z ≡ w = cc in
    let rest : p ++ x ∷ [] ≡ q ++ y ∷ [] = cc in
    ap (λ v. v ∷ p) first ∙ ap (λ r. w ∷ r) (same_front p q x y rest)

same_last : (p q : List Part) (x y : Part) → p ++ x ∷ [] ≡ q ++ y ∷ [] → x ≡ y
same_last [] [] x y same = cc
same_last [] (z ∷ q) x y same = absurd (no_last q y (let e : [] ≡ q ++ y ∷ [] = cc in e))
same_last (z ∷ p) [] x y same = absurd (no_last p x (let e : [] ≡ p ++ x ∷ [] = cc in e))
same_last (z ∷ p) (w ∷ q) x y same = same_last p q x y (let rest : p ++ x ∷ [] ≡ q ++ y ∷ [] = cc in rest)

same_value : (value v w : Data) (p q : List Part) → p ≡ q → value_at value p ≡ Some v → value_at value q ≡ Some w → v ≡ w
same_value value v w p q same one other = let e : Some v ≡ Some w = sym one ∙ ap (value_at value) same ∙ other in cc

-- what changes doesn't stay
no_both : (draft : Draft) (base uri : List ℕ) (since : List Part) (value : Data) → Stays draft base since value → IsChange draft base since value uri → ⊥
no_both draft base uri since value stays change =
    change.another (let e : Ok uri ≡ Ok base = sym change.means ∙ stays change.id change.accepted change.is in cc)

one_uri : (draft : Draft) (base uri other : List ℕ) (since : List Part) (value : Data) → IsChange draft base since value uri → IsChange draft base since value other → uri ≡ other
one_uri draft base uri other since value change again =
    let id : Some change.id ≡ Some again.id = sym change.is ∙ again.is in
    let same : change.id ≡ again.id = cc in
    let e : Ok uri ≡ Ok other = sym change.means ∙ ap (uri_against base) same ∙ again.means in cc

moved : (a b : Along) (x y : Part) → a ≡ b → x ≡ y → a.since ++ x ∷ [] ≡ b.since ++ y ∷ []
moved a b x y same part = ap (λ (c : Along). c.since ++ x ∷ []) same ∙ ap (λ z. b.since ++ z ∷ []) part

stays_moved : (draft : Draft) (a b : Along) (x y : Part) (v w : Data) → a ≡ b → x ≡ y → v ≡ w → Stays draft a.base (a.since ++ x ∷ []) v → Stays draft b.base (b.since ++ y ∷ []) w
stays_moved draft a b x y v w same part value stays =
    subst (λ u. Stays draft b.base (b.since ++ y ∷ []) u) value
    (subst (λ z. Stays draft b.base (b.since ++ z ∷ []) v) part (subst (λ (c : Along). Stays draft c.base (c.since ++ x ∷ []) v) same stays))

change_moved : (draft : Draft) (a b : Along) (x y : Part) (v w : Data) (uri : List ℕ) → a ≡ b → x ≡ y → v ≡ w → IsChange draft a.base (a.since ++ x ∷ []) v uri → IsChange draft b.base (b.since ++ y ∷ []) w uri
change_moved draft a b x y v w uri same part value change =
    subst (λ u. IsChange draft b.base (b.since ++ y ∷ []) u uri) value
    (subst (λ z. IsChange draft b.base (b.since ++ z ∷ []) v uri) part (subst (λ (c : Along). IsChange draft c.base (c.since ++ x ∷ []) v uri) same change))

one_base_at : (draft : Draft) (start : List ℕ) (value : Data) (p q : List Part) (a b : Along) → p ≡ q → IsBaseAlong draft start value p a → IsBaseAlong draft start value q b → a ≡ b
one_base_at draft start value p q a b same begun begun = refl
one_base_at draft start value p q a b same begun (stayed path part along before step) = absurd (no_last path part same)
one_base_at draft start value p q a b same begun (changed path part along uri before step) = absurd (no_last path part same)
one_base_at draft start value p q a b same (stayed path part along before step) begun = absurd (no_last path part (sym same))
one_base_at draft start value p q a b same (changed path part along uri before step) begun = absurd (no_last path part (sym same))
one_base_at draft start value p q a b same (stayed path part along before step) (stayed path' part' along' before' step') =
    let alike = one_base_at draft start value path path' along along' (same_front path path' part part' same) before before' in
    ap (λ (c : Along). record { base = c.base; since = c.since ++ part ∷ [] }) alike ∙ ap (λ z. record { base = along'.base; since = along'.since ++ z ∷ [] }) (same_last path path' part part' same)
one_base_at draft start value p q a b same (stayed path part along before step) (changed path' part' along' uri' before' step') =
    let alike = one_base_at draft start value path path' along along' (same_front path path' part part' same) before before' in
    absurd (no_both draft along'.base uri' (along'.since ++ part' ∷ []) step'.there
    (stays_moved draft along along' part part' step.there step'.there alike (same_last path path' part part' same) (same_value value step.there step'.there (path ++ part ∷ []) (path' ++ part' ∷ []) same step.is_there step'.is_there) step.stays) step'.change)
one_base_at draft start value p q a b same (changed path part along uri before step) (stayed path' part' along' before' step') =
    let alike = one_base_at draft start value path path' along along' (same_front path path' part part' same) before before' in
    absurd (no_both draft along'.base uri (along'.since ++ part' ∷ []) step'.there step'.stays
    (change_moved draft along along' part part' step.there step'.there uri alike (same_last path path' part part' same) (same_value value step.there step'.there (path ++ part ∷ []) (path' ++ part' ∷ []) same step.is_there step'.is_there) step.change))
one_base_at draft start value p q a b same (changed path part along uri before step) (changed path' part' along' uri' before' step') =
    let alike = one_base_at draft start value path path' along along' (same_front path path' part part' same) before before' in
    ap (λ u. record { base = u; since = [] })
    (one_uri draft along'.base uri uri' (along'.since ++ part' ∷ []) step'.there
    (change_moved draft along along' part part' step.there step'.there uri alike (same_last path path' part part' same) (same_value value step.there step'.there (path ++ part ∷ []) (path' ++ part' ∷ []) same step.is_there step'.is_there) step.change) step'.change)

pub one_base : (draft : Draft) (start : List ℕ) (value : Data) (path : List Part) (a b : Along) → IsBaseAlong draft start value path a → IsBaseAlong draft start value path b → a ≡ b
one_base draft start value path a b first second = one_base_at draft start value path path a b refl first second
