-- References that are listed place by place.
use Rattle.std.proofs.Common.{◌≡◌, ℕ, Bool, true, false, if◌then◌else◌, List, [], ◌∷◌, ◌++◌, map, filter, flat_map, Option, Some, None, option_map, refl, sym, ap, ◌∙◌, subst, append_assoc, append-nil}
use Rattle.std.proofs.lemmas.List.{map-append}
use Rattle.std.specs.List.{AllZip}
use Rattle.std.specs.Option.{option_to_list}
use Rattle.serde_json.specs.Data.{Data}
use Rattle.serde_json.specs.View.{view}
use Rattle.serde_json.specs.declared.value.Value.{Value}
use Rattle.ref_serve.specs.References.{Reference, IsReferred, reference_under, references_at, is_in}
use Rattle.ref_draft.specs.Schema.{text_under}
use Rattle.ref_definitions.specs.Listing.{Listed}
use Rattle.ref_serve.specs.Results.{Asked}
use Rattle.ref_serve.specs.inner.Referred.{Adds}

zips_after : (asked : Asked) (rs ss : List Reference) (ds es : List Data) → AllZip (IsReferred asked) rs ds → AllZip (IsReferred asked) ss es → AllZip (IsReferred asked) (rs ++ ss) (ds ++ es)
zips_after asked [] ss [] es are more = more
zips_after asked [] ss (d ∷ ds) es are more = absurd are
zips_after asked (r ∷ rs) ss [] es are more = absurd are
zips_after asked (r ∷ rs) ss (d ∷ ds) es are more = (are.0, zips_after asked rs ss ds es are.1 more)

pub adds_none : (asked : Asked) (old : List Value) → Adds asked [] old old
adds_none asked old = ([], tt, sym (append-nil (map view old)))

pub adds_one : (asked : Asked) (r : Reference) (old new : List Value) (d : Value) → IsReferred asked r (view d) → new ≡ old ++ d ∷ [] → Adds asked (r ∷ []) old new
adds_one asked r old new d is same = (view d ∷ [], (is, tt), ap (map view) same ∙ map-append view old (d ∷ []))

pub adds_both : (asked : Asked) (rs ss : List Reference) (old middle new : List Value) → Adds asked rs old middle → Adds asked ss middle new → Adds asked (rs ++ ss) old new
adds_both asked rs ss old middle new (ds, are, is) (es, more, joined) =
    (ds ++ es, zips_after asked rs ss ds es are more, joined ∙ ap (λ xs. xs ++ es) is ∙ append_assoc (map view old) ds es)

-- the objects of references so far, before those of the places that are left
abbrev pub IsLeft : Asked → Option ℕ → List Listed → List Data → List Reference → Type 0
IsLeft asked document rest ds all =
    (done : List Reference) × AllZip (IsReferred asked) done ds × (done ++ flat_map references_at (filter (is_in document) rest) ≡ all)

split_by : (b : Bool) (p : Listed) (xs : List Listed) → flat_map references_at (if b then p ∷ xs else xs) ≡ flat_map references_at (if b then p ∷ [] else []) ++ flat_map references_at xs
split_by true p xs = ap (λ r. r ++ flat_map references_at xs) (sym (append-nil (references_at p)))
split_by false p xs = refl

split_first : (document : Option ℕ) (p : Listed) (rest : List Listed)
    → flat_map references_at (filter (is_in document) (p ∷ rest)) ≡ flat_map references_at (filter (is_in document) (p ∷ [])) ++ flat_map references_at (filter (is_in document) rest)
split_first document p rest = split_by (is_in document p) p (filter (is_in document) rest)

pub one_place_more : (asked : Asked) (document : Option ℕ) (p : Listed) (rest : List Listed) (old new : List Value) (all : List Reference) → IsLeft asked document (p ∷ rest) (map view old) all
    → Adds asked (flat_map references_at (filter (is_in document) (p ∷ []))) old new → IsLeft asked document rest (map view new) all
one_place_more asked document p rest old new all (done, are, is) (es, more, joined) =
    let first = flat_map references_at (filter (is_in document) (p ∷ [])) in
    let later = flat_map references_at (filter (is_in document) rest) in (
      done ++ first,
      subst (λ ds. AllZip (IsReferred asked) (done ++ first) ds) (sym joined) (zips_after asked done first (map view old) es are more),
      append_assoc done first later ∙ ap (λ xs. done ++ xs) (sym (split_first document p rest)) ∙ is,
    )

pub all_places : (asked : Asked) (document : Option ℕ) (ds : List Data) (all : List Reference) → IsLeft asked document [] ds all → AllZip (IsReferred asked) all ds
all_places asked document ds all (done, are, is) = subst (λ rs. AllZip (IsReferred asked) rs ds) (sym (append-nil done) ∙ is) are

-- ---- one place

pub adds_under : (asked : Asked) (p : Listed) (base keyword text : List ℕ) (old new : List Value) (d : Value) → Some text ≡ text_under keyword p.value
    → IsReferred asked (record { document = p.document; path = p.path; base = base; keyword = keyword; text = text }) (view d) → new ≡ old ++ d ∷ [] → Adds asked (reference_under p base keyword) old new
adds_under asked p base keyword text old new d there is same =
    subst (λ t. Adds asked (option_to_list (option_map (λ s. record { document = p.document; path = p.path; base = base; keyword = keyword; text = s }) t)) old new) there
    (adds_one asked (record { document = p.document; path = p.path; base = base; keyword = keyword; text = text }) old new d is same)

pub adds_dynamic : (asked : Asked) (p : Listed) (base keyword : List ℕ) (found : Option (List ℕ)) (old new : List Value) → Some keyword ≡ found → Adds asked (reference_under p base keyword) old new
    → Adds asked (flat_map (reference_under p base) (option_to_list found)) old new
adds_dynamic asked p base keyword found old new is added =
    subst (λ k. Adds asked (flat_map (reference_under p base) (option_to_list k)) old new) is (subst (λ rs. Adds asked rs old new) (sym (append-nil (reference_under p base keyword))) added)

pub no_dynamic : (asked : Asked) (p : Listed) (base : List ℕ) (found : Option (List ℕ)) (old new : List Value) → None ≡ found → new ≡ old → Adds asked (flat_map (reference_under p base) (option_to_list found)) old new
no_dynamic asked p base found old new is same =
    subst (λ k. Adds asked (flat_map (reference_under p base) (option_to_list k)) old new) is (subst (λ xs. Adds asked [] old xs) (sym same) (adds_none asked old))

pub asked_in : (asked : Asked) (document : Option ℕ) (p : Listed) (old new : List Value) → is_in document p ≡ true → Adds asked (references_at p) old new
    → Adds asked (flat_map references_at (filter (is_in document) (p ∷ []))) old new
asked_in asked document p old new is added =
    subst (λ b. Adds asked (flat_map references_at (if b then p ∷ [] else [])) old new) (sym is) (subst (λ rs. Adds asked rs old new) (sym (append-nil (references_at p))) added)

pub asked_out : (asked : Asked) (document : Option ℕ) (p : Listed) (old new : List Value) → is_in document p ≡ false → new ≡ old
    → Adds asked (flat_map references_at (filter (is_in document) (p ∷ []))) old new
asked_out asked document p old new is same =
    subst (λ b. Adds asked (flat_map references_at (if b then p ∷ [] else [])) old new) (sym is) (subst (λ xs. Adds asked [] old xs) (sym same) (adds_none asked old))
