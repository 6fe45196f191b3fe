-- Places by their addresses.
use Rattle.std.proofs.Common.{◌≡◌, ℕ, Bool, true, false, ◌&&◌, ◌==◌, ◌<◌, cond, List, [], ◌∷◌, ◌++◌, map, flat_map, bytes_eq, decimal, length, get_or, slice_get, String, string_bytes, Vec, Global, Some, option_map, refl, sym, ap, ◌∙◌, append-nil, true≢false}
use Rattle.std.specs.Option.{option_map_or, option_to_list}
use Rattle.std.specs.BTreeMap.{BTreeMap, IsEmpty, is_at}
use Rattle.std.specs.Map.{lookup}
use Rattle.std.specs.Cmp.Lexicographic.{slice_cmp}
use Rattle.std.specs.Ordering.{nat_cmp}
use Rattle.std.proofs.lemmas.Option.{slice_get-map, slice_get_read}
use Rattle.std.proofs.lemmas.List.Concat.{flat_map-append}
use Rattle.std.proofs.lemmas.Bool.{and_parts, eqb-true}
use Rattle.std.proofs.lemmas.Slice.Eq.{bytes_eq-Decides}
use Rattle.ref_reach.specs.Places.{Place}
use Rattle.ref_reach.specs.declared.place.Place as rust_place
use Rattle.ref_reach.specs.Views.{place_of}
use Rattle.ref_comparison.specs.declared.after.Number.{Number}
use Rattle.ref_descriptions.specs.References.{references}
use Rattle.ref_changes.specs.Moves.{Address, image, is_address, address_of}
use Rattle.ref_comparison.specs.Further.{Sides, spot_of, is_read_so, is_image, is_base_kept, reference_whats, whats_among}
use Rattle.ref_comparison.specs.inner.Grouped.{address_text, text_at, placed_at, Lists, list_of, with_number, group_in}
use Rattle.ref_comparison.proofs.Telling.{image_passed, three}

same_text : (a b : Address) → a.document ≡ b.document → bytes_eq a.pointer b.pointer ≡ true → bytes_eq (address_text a) (address_text b) ≡ true
same_text a b number text =
    (bytes_eq-Decides (address_text a) (address_text b)).1
    (ap (λ n. decimal n ++ a.pointer) number ∙ ap (λ l. decimal b.document ++ l) ((bytes_eq-Decides a.pointer b.pointer).0 text))

-- addresses whose texts differ are others
other_address : (a b : Address) → bytes_eq (address_text a) (address_text b) ≡ false → is_address a b ≡ false
other_address a b differ = by_test (is_address a b) refl
  where
    by_test : (c : Bool) → is_address a b ≡ c → is_address a b ≡ false
    by_test false is = is
    by_test true is =
        let (number, text) = and_parts (a.document == b.document) (bytes_eq a.pointer b.pointer) is in
        absurd (true≢false (sym (same_text a b (eqb-true a.document b.document number) text) ∙ differ))

-- what is at another address isn't where the place moved
other_image : (s : Sides) (p q : Place) → bytes_eq (address_text (image s.moves (spot_of p))) (text_at q) ≡ false → is_image s p q ≡ false
other_image s p q differ = ap (λ b. b && is_read_so p.reading q.reading) (other_address (image s.moves (spot_of p)) (address_of (spot_of q)) differ)

-- only those at the address where the place moved count
pub at_image : (s : Sides) (p : Place) (ps : List Place) (b : Bool) → whats_among s p (flat_map (placed_at (address_text (image s.moves (spot_of p)))) ps) b ≡ whats_among s p ps b
at_image s p [] b = refl
at_image s p (q ∷ ps) b = by_text (flat_map (placed_at (address_text (image s.moves (spot_of p)))) ps) (bytes_eq (address_text (image s.moves (spot_of p))) (text_at q)) refl (at_image s p ps true) (at_image s p ps b)
  where
    by_text : (rest : List Place) (c : Bool) → bytes_eq (address_text (image s.moves (spot_of p))) (text_at q) ≡ c → whats_among s p rest true ≡ whats_among s p ps true
        → whats_among s p rest b ≡ whats_among s p ps b → whats_among s p (cond c (q ∷ []) [] ++ rest) b ≡ whats_among s p (q ∷ ps) b
    by_text rest true is first second =
        ap (λ l. cond (is_image s p q) (cond (is_base_kept s p q) (reference_whats s p q (references p.reading p.value) (references q.reading q.value)) l) (whats_among s p rest b)) first
        ∙ ap (λ l. cond (is_image s p q) (cond (is_base_kept s p q) (reference_whats s p q (references p.reading p.value) (references q.reading q.value)) (whats_among s p ps true)) l) second
    by_text rest false is first second = second ∙ sym (image_passed s p q ps b (other_image s p q is))

-- three lists, one after another
pub in_three : (f : Place → List Place) (a b c d : List Place) (xs ys zs : List Place) → a ≡ [] → b ≡ a ++ flat_map f xs → c ≡ b ++ flat_map f ys → d ≡ c ++ flat_map f zs
    → d ≡ flat_map f ((xs ++ ys) ++ zs)
in_three f a b c d xs ys zs none one two all =
    all ∙ ap (λ l. l ++ flat_map f zs) (two ∙ ap (λ l. l ++ flat_map f ys) (one ∙ ap (λ l. l ++ flat_map f xs) none)) ∙ sym (three f xs ys zs)

-- with one number more
pub one_placed : (lists : Lists) (q : List ℕ) (before after : List Number) (n : Number) (text : String Global) (places : List rust_place.Place) (p : rust_place.Place)
    → list_of lists n.list ≡ map place_of places → n.index < length places → p ≡ get_or places n.index p → string_bytes text ≡ text_at (place_of p)
    → after ≡ before ++ cond (bytes_eq q (string_bytes text)) (n ∷ []) []
    → flat_map (with_number lists) after ≡ flat_map (with_number lists) before ++ placed_at q (place_of p)
one_placed lists q before after n text places p list within is texts more =
    ap (flat_map (with_number lists)) more ∙ flat_map-append (with_number lists) before (cond (bytes_eq q (string_bytes text)) (n ∷ []) [])
    ∙ ap (λ l. flat_map (with_number lists) before ++ l) (by_test (bytes_eq q (string_bytes text)) ∙ ap (λ t. cond (bytes_eq q t) (place_of p ∷ []) []) texts)
  where
    found : slice_get (list_of lists n.list) n.index ≡ Some (place_of p)
    found = ap (λ l. slice_get l n.index) list ∙ slice_get-map place_of places n.index ∙ ap (option_map place_of) (slice_get_read places (length places) n.index p refl within is)

    by_test : (b : Bool) → flat_map (with_number lists) (cond b (n ∷ []) []) ≡ cond b (place_of p ∷ []) []
    by_test true = append-nil (with_number lists n) ∙ ap option_to_list found
    by_test false = refl

-- a map without entries has none
pub no_numbers : (lists : Lists) (numbers : BTreeMap (String Global) (Vec Number Global)) → IsEmpty numbers → (q : List ℕ) → group_in lists numbers q ≡ []
no_numbers lists numbers none q = ap (λ es. flat_map (with_number lists) (option_map_or (λ g. g.items) (lookup (is_at (λ k. slice_cmp nat_cmp q (string_bytes k))) es) [])) none
