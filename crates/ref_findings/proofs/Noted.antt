-- Of a place without a text that findings are about an index has nothing.
use Rattle.std.proofs.Common.{◌≡◌, ◌∙◌, ℕ, ◌+◌, ◌<◌, Bool, true, false, List, [], ◌∷◌, ◌++◌, map, flat_map, take, drop, length, Option, Some, None, Result, Ok, Err, option_map, codes, refl, sym, ap, subst, arith}
use Rattle.std.specs.Prelude.{slice_get, option_and_then}
use Rattle.std.specs.Option.{option_map_or, option_to_list}
use Rattle.std.specs.Result.{result_ok}
use Rattle.std.specs.List.{AllByRecursion, Contains}
use Rattle.std.proofs.lemmas.Option.{get_or_from_slice_get}
use Rattle.std.proofs.lemmas.List.{take_more, take-append-le, map-append}
use Rattle.std.proofs.lemmas.List.Elements.{All-contains, All-from_recursion}
use Rattle.serde_json.specs.Data.{Data, depth}
use Rattle.ref_paths.specs.Path.{Part}
use Rattle.ref_draft.specs.declared.draft.Draft.{Draft}
use Rattle.ref_draft.specs.Schema.{text_under, identifier}
use Rattle.ref_draft.specs.Anchors.{anchors}
use Rattle.ref_draft.proofs.Lists.{all_append}
use Rattle.ref_uri.specs.Targets.{Refusal, target}
use Rattle.serde_json.specs.Find.{get, as_str}
use Rattle.ref_definitions.specs.World.{Document}
use Rattle.ref_definitions.specs.Places.{Place, base_within, root, levels_below, places}
use Rattle.ref_definitions.specs.Anchors.{Named, named_under}
use Rattle.ref_definitions.specs.Cached.{Pair, pairs_of_identifier, pairs_of_reference}
use Rattle.ref_definitions.specs.Wants.{Want, Reference, MetaSchema, reference_at, schema_at, schema_uri, wants_of_text, wants_at}
use Rattle.ref_index.specs.Listed.{IsLeftOut, AreNoted, none, noted, left_out, IsListingOf, ChildrenAreAt}
use Rattle.ref_findings.specs.declared.place.Place as rust
use Rattle.ref_findings.specs.inner.Plain.{IsPlain}
use Rattle.ref_index.specs.Visit.{place_with}
use Rattle.ref_findings.specs.inner.Seen.{place_of}
use Rattle.ref_findings.specs.Places.{document, places_near}
use Rattle.ref_findings.specs.Sources.{Source, places_in, is_sound}
use Rattle.ref_findings.proofs.Placing.{none_of}
use Rattle.ref_findings.proofs.Sound.{faultless_document, same_places, sound_places}

-- ---- one place

nothing : {A B : Type 0} (o : Option A) (f : A → List B) → ((a : A) → f a ≡ []) → option_map_or f o [] ≡ []
nothing None f empty = refl
nothing (Some a) f empty = empty a

wants_nothing : (base : Result (List ℕ) Refusal) (value : Data) → ((uri : List ℕ) → reference_at uri value ≡ None) → schema_at value ≡ None → wants_at base value ≡ []
wants_nothing (Ok base) value reference schema =
    ap (λ r. wants_of_text Reference r ++ wants_of_text MetaSchema (schema_at value)) (reference base) ∙ ap (wants_of_text MetaSchema) schema
wants_nothing (Err refusal) value reference schema = ap (wants_of_text MetaSchema) schema

pub plain_left_out : (p : rust.Place) → IsPlain p.draft (place_of p).value → IsLeftOut (place_of p)
plain_left_out p plain =
    let q = place_of p in
    let reference : text_under (codes "$ref") q.value ≡ None = ap (option_and_then as_str) (none_of (get (codes "$ref") q.value) plain.0) in
    let schema = plain.1 in
    let id = plain.2 in
    let anchor = plain.3 in
    record {
      resource = ap (λ o. option_to_list (option_map (λ uri. (uri, q)) (option_and_then (λ i. result_ok q.base) o))) id;
      name = nothing (result_ok q.base) (λ base. named_under base q) (λ base. ap (map (λ a. record { uri = base; name = a.0; kind = a.1; place = q })) anchor);
      want = wants_nothing q.base q.value (λ uri. ap (option_map (target uri)) reference) (ap (option_and_then schema_uri) schema);
      pair = ap (λ o. pairs_of_identifier q.outer o ++ option_map_or (λ base. option_map_or (pairs_of_reference base) (text_under (codes "$ref") q.value) []) (result_ok q.base) []) id
          ∙ nothing (result_ok q.base) (λ base. option_map_or (pairs_of_reference base) (text_under (codes "$ref") q.value) []) (λ base. ap (λ t. option_map_or (pairs_of_reference base) t []) reference);
    }

-- ---- one place more

pub noted_more : (ps qs : List Place) (p : Place) → AreNoted ps qs → AreNoted (ps ++ p ∷ []) (qs ++ p ∷ [])
noted_more _ _ p none = noted p [] [] none
noted_more _ _ p (noted q ps qs rest) = noted q (ps ++ p ∷ []) (qs ++ p ∷ []) (noted_more ps qs p rest)
noted_more _ _ p (left_out q ps qs is rest) = left_out q (ps ++ p ∷ []) (qs ++ p ∷ []) is (noted_more ps qs p rest)

pub left_more : (ps qs : List Place) (p : Place) → IsLeftOut p → AreNoted ps qs → AreNoted (ps ++ p ∷ []) qs
left_more _ _ p out none = left_out p [] [] out none
left_more _ _ p out (noted q ps qs rest) = noted q (ps ++ p ∷ []) qs (left_more ps qs p out rest)
left_more _ _ p out (left_out q ps qs is rest) = left_out q (ps ++ p ∷ []) qs is (left_more ps qs p out rest)

-- what holds of the places that were visited, and of the one that is visited, holds of both
pub all_visited : (P : Place → Type 0) (queue after more : List rust.Place) (i : ℕ) (p : rust.Place) → i < length queue → slice_get queue i ≡ Some p → after ≡ queue ++ more
    → AllByRecursion P (map place_of (take i queue)) → P (place_of p) → AllByRecursion P (map place_of (take (i + 1) after))
all_visited P queue after more i p within here grown all one =
    let taken : map place_of (take (i + 1) after) ≡ map place_of (take i queue) ++ place_of p ∷ [] =
    ap (λ l. map place_of (take (i + 1) l)) grown
    ∙ ap (map place_of) (take-append-le (i + 1) queue more (omega (arith, within)) ∙ take_more queue i p within ∙ ap (λ w. take i queue ++ w ∷ []) (get_or_from_slice_get queue i p p here))
    ∙ map-append place_of (take i queue) (p ∷ []) in
    subst (AllByRecursion P) (sym taken) (all_append P (map place_of (take i queue)) (place_of p ∷ []) all (one, tt))

-- ---- a source

listed : (d : Document) (ps vs : List Place) → ps ≡ places_near d → places d ≡ places_near d → AllByRecursion ChildrenAreAt ps → ((first : Place) (below : List Place) → ps ≡ first ∷ below → AreNoted below vs) → AreNoted (places d) (root d ∷ vs)
listed d ps vs near same are_there are =
    let below = levels_below (depth d.tree) (root d ∷ []) in
    noted (root d) below vs (are (root d) below (near ∙ sym same))

pub listing : (draft : Draft) (s : Source) (t : Data) (ps vs : List Place) → s.tree ≡ Some t → is_sound draft s ≡ true → ps ≡ places_in draft s → AllByRecursion ChildrenAreAt ps
    → ((first : Place) (below : List Place) → ps ≡ first ∷ below → AreNoted below vs) → IsListingOf (document draft s.uri t) vs
listing draft s t ps vs tree sound seen are_there are =
    let d = document draft s.uri t in
    let near : ps ≡ places_near d = seen ∙ ap (λ o. option_map_or places_near (option_map (document draft s.uri) o) []) tree in
    let faultless = sound_places draft s t tree sound in
    let same = same_places d faultless in
    record {
      noted = listed d ps vs near same are_there are;
      faultless = faultless_document d faultless;
      children = λ p there. All-contains ChildrenAreAt (places d) p (All-from_recursion ChildrenAreAt (places d) (subst (AllByRecursion ChildrenAreAt) (near ∙ sym same) are_there)) there;
    }
