-- A root that the pointer and the keywords read alike, in a layer of its document alone, given by what computes.
use Rattle.std.proofs.Common.{◌≡◌, ℕ, false, List, [], ◌∷◌, Some, None, is_some, Ok, ◌⊎◌, inl, inr, ⊎_elim, IsTrue, refl, sym, ap, subst, ◌∙◌, true≢false, bytes_eq, arith, Ordering, Less, Equal, Greater, nat_cmp}
use Rattle.std.specs.Bool.{⊤}
use Rattle.std.specs.List.{Contains, AllByRecursion}
use Rattle.std.specs.Ordering.{match_ordering}
use Rattle.std.specs.Cmp.Lexicographic.{slice_cmp}
use Rattle.std.proofs.lemmas.List.Elements.{All-contains, All-from_recursion}
use Rattle.std.proofs.lemmas.Slice.Eq.{bytes_eq-Decides}
use Rattle.serde_json.specs.Data.{Data, null, boolean, number, string, array, object, Members, no_members, member}
use Rattle.serde_json.specs.Find.{get_member}
use Rattle.ref_draft.specs.declared.draft.Draft.{Draft}
use Rattle.ref_draft.specs.Keywords.{is_before_2020, id_keyword}
use Rattle.ref_draft.specs.Schema.{text_under}
use Rattle.ref_definitions.specs.World.{Document}
use Rattle.ref_definitions.specs.Places.{Place, root, places, identifier_of}
use Rattle.ref_definitions.specs.Resources.{resources}
use Rattle.ref_definitions.specs.Agreement.{HasPlainMaps, IsReadAlike}
use Rattle.ref_definitions.proofs.AtOrBelow.{below_is_place}
use Rattle.ref_definitions.proofs.Lists.{first_or_later}

-- ---- the members of a value hold no text under a key

abbrev pub AllPlain : List ℕ → Members → Type 0
AllPlain id no_members = ⊤
AllPlain id (member key value ms) = (text_under id value ≡ None) × AllPlain id ms

abbrev pub IsPlain : List ℕ → Data → Type 0
IsPlain id null = ⊤
IsPlain id (boolean b) = ⊤
IsPlain id (number n) = ⊤
IsPlain id (string s) = ⊤
IsPlain id (array ds) = ⊤
IsPlain id (object ms) = AllPlain id ms

found_plain : (id key : List ℕ) (ms : Members) (value : Data) → AllPlain id ms → get_member key ms ≡ Some value → text_under id value ≡ None
found_plain id key no_members value each is = absurd (cc)
found_plain id key (member other e ms) value each is = by_order (slice_cmp nat_cmp key other) (found_plain id key ms value each.1) is
  where
    by_order : (o : Ordering) → (get_member key ms ≡ Some value → text_under id value ≡ None) → match_ordering o (get_member key ms) (Some e) (get_member key ms) ≡ Some value → text_under id value ≡ None
    by_order Less later at = later at
    by_order Equal later at = let same : e ≡ value = cc in subst (λ v. text_under id v ≡ None) same each.0
    by_order Greater later at = later at

pub plain_maps : (draft : Draft) (value : Data) → IsPlain (id_keyword draft) value → HasPlainMaps draft value
plain_maps draft null each keyword schemas holds is = absurd (cc)
plain_maps draft (boolean b) each keyword schemas holds is = absurd (cc)
plain_maps draft (number n) each keyword schemas holds is = absurd (cc)
plain_maps draft (string s) each keyword schemas holds is = absurd (cc)
plain_maps draft (array ds) each keyword schemas holds is = absurd (cc)
plain_maps draft (object ms) each keyword schemas holds is = found_plain (id_keyword draft) keyword ms schemas each is

-- ---- entries

-- each entry is under another URI, or of the place
abbrev pub AreOf : List ℕ → Place → List (List ℕ × Place) → Type 0
AreOf uri r entries = AllByRecursion (λ e. (bytes_eq e.0 uri ≡ false) ⊎ (e.1 ≡ r)) entries

of_entry : (uri : List ℕ) (r p : Place) (e : List ℕ × Place) → (bytes_eq e.0 uri ≡ false) ⊎ (e.1 ≡ r) → e ≡ (uri, p) → p ≡ r
of_entry uri r p e (inl other) is = absurd (true≢false (sym ((bytes_eq-Decides e.0 uri).1 (ap (λ (x : List ℕ × Place). x.0) is)) ∙ other))
of_entry uri r p e (inr same) is = sym (ap (λ (x : List ℕ × Place). x.1) is) ∙ same

pub alone_of : (uri : List ℕ) (r p : Place) (entries : List (List ℕ × Place)) → AreOf uri r entries → Contains entries (uri, p) → p ≡ r
alone_of uri r p [] each there = absurd (omega (arith, there.1))
alone_of uri r p (e ∷ es) each there =
    ⊎_elim (of_entry uri r p e each.0) (alone_of uri r p es each.1) (first_or_later e es (uri, p) there)

-- ---- a place

pub read_alike_at : (d : Document) (r : Place) (uri : List ℕ) → Contains (places d) r → (r ≡ root d) ⊎ IsTrue (is_some (identifier_of r)) → r.base ≡ Ok uri → AreOf uri r (resources (d ∷ []))
    → AllByRecursion (λ p. p.draft ≡ r.draft) (places d) → (IsTrue (is_before_2020 r.draft) → AllByRecursion (λ p. IsPlain (id_keyword r.draft) p.value) (places d)) → IsReadAlike (d ∷ []) d r uri
read_alike_at d r uri there resource base alone drafts plain = record {
  document = (0, omega arith, refl);
  place = there;
  resource = resource;
  base = base;
  alone = λ p at. alone_of uri r p (resources (d ∷ [])) alone at;
  one_draft = λ p under. All-contains (λ q. q.draft ≡ r.draft) (places d) p (All-from_recursion _ (places d) drafts) (below_is_place d p r there under);
  plain_maps = λ before p under. plain_maps r.draft p.value
      (All-contains (λ q. IsPlain (id_keyword r.draft) q.value) (places d) p (All-from_recursion _ (places d) (plain before)) (below_is_place d p r there under));
}

pub read_alike : (d : Document) (uri : List ℕ) → (root d).base ≡ Ok uri → AreOf uri (root d) (resources (d ∷ [])) → AllByRecursion (λ p. p.draft ≡ d.draft) (places d)
    → (IsTrue (is_before_2020 d.draft) → AllByRecursion (λ p. IsPlain (id_keyword d.draft) p.value) (places d)) → IsReadAlike (d ∷ []) d (root d) uri
read_alike d uri base alone drafts plain = read_alike_at d (root d) uri (0, omega arith, refl) (inl refl) base alone drafts plain
