-- A path that loses the same dot segments before its triples are decoded and after.
use Rattle.std.proofs.Common.{◌≡◌, ◌≢◌, ℕ, ◌+◌, ◌*◌, ◌<◌, get_or, Bool, true, false, cond, ◌&&◌, ◌||◌, List, [], ◌∷◌, ◌++◌, length, drop, map, reverse, bytes_eq, eqb, refl, sym, ap, ◌∙◌, subst, arith, inl, inr, codes}
use Rattle.std.specs.List.{list_all, AllByRecursion, prefix_len}
use Rattle.std.specs.Char.{is_ascii_hexdigit, to_ascii_uppercase}
use Rattle.std.proofs.lemmas.Bool.{cases_Bool, cases_eq, and_parts, eqb-true, false≢true, false_from_ne_true}
use Rattle.std.proofs.lemmas.Bool.Decides.{nat_tests}
use Rattle.std.proofs.lemmas.List.{get_or-append-add, length-append, length-map, drop-map, map-append, reverse-append}
use Rattle.std.proofs.lemmas.Slice.Eq.{bytes_eq-Decides}
use Rattle.ref_uri.specs.Characters.{has_whole_triples, is_unreserved}
use Rattle.ref_uri.specs.DotSegments.{segments, after_slashes, joined_segments, is_dot, is_dot_dot, is_dot_segment, first_after, kept_after, remaining_segments, ends_in_dots, without_dots, remove_dot_segments}
use Rattle.ref_uri.specs.Normal.{hex_value, normal_triple, normal_text}
use Rattle.ref_uri.specs.inner.Removal.{AreNames, IsNoEncodedDot}
use Rattle.ref_uri.specs.inner.Target.{LacksEncodedDot}
use Rattle.ref_uri.specs.declared.written.Form.TheVariants.{Normal}
use Rattle.ref_uri.proofs.Induction.{by_units}
use Rattle.ref_uri.proofs.NormalLemmas.{normal_none, normal_character, normal_triple_front}
use Rattle.ref_uri.proofs.NormalTwice.{normal-append}
use Rattle.ref_uri.proofs.SegmentLemmas.{segments-slash, segments-other, segments-triple, segments_are_whole, each_onto, each_onto_triple}
use Rattle.ref_uri.proofs.PathValid.{each_drop, each_without_dots}
use Rattle.ref_uri.proofs.WrittenLemmas.{written_segments}

-- where a triple of a letter is after a text
dot_after : (letter : ℕ) (text before after : List ℕ) → text ≡ before ++ 37 ∷ 50 ∷ letter ∷ after → (length before + 2 < length text) × (get_or text (length before) 0 ≡ 37) × (get_or text (length before + 1) 0 ≡ 50) × (get_or text (length before + 2) 0 ≡ letter)
dot_after letter text before after e =
    let at : (j : ℕ) → get_or text (length before + j) 0 ≡ get_or (37 ∷ 50 ∷ letter ∷ after) j 0 = λ j. ap (λ t. get_or t (length before + j) 0) e ∙ get_or-append-add before (37 ∷ 50 ∷ letter ∷ after) j 0 in
    let front : length before ≡ length before + 0 = omega arith in (
      omega (arith, ap length e, length-append before (37 ∷ 50 ∷ letter ∷ after)),
      ap (λ j. get_or text j 0) front ∙ at 0,
      at 1,
      at 2,
    )

-- a text at none of whose places a triple of `.` begins
pub lacks_encoded_dot : (text : List ℕ) → ((k : ℕ) → k + 2 < length text → IsNoEncodedDot text k) → LacksEncodedDot text
lacks_encoded_dot text none before after = (
  λ e. let dot = dot_after 101 text before after e in (none (length before) dot.0 dot.1 dot.2).0 dot.3,
  λ e. let dot = dot_after 69 text before after e in (none (length before) dot.0 dot.1 dot.2).1 dot.3,
)

-- dots and nothing else
abbrev AllDots : List ℕ → Type 0
AllDots word = list_all (λ c. eqb c 46) word ≡ true

-- The normal form of the text is dots alone only where the text is.
pub Stays : List ℕ → Type 0
Stays text = (word : List ℕ) → AllDots word → normal_text text ≡ word → text ≡ word

same_front : (c d : ℕ) (s t : List ℕ) → c ∷ s ≡ d ∷ t → c ≡ d
same_front c d s t e = cc

same_after : (c d : ℕ) (s t : List ℕ) → c ∷ s ≡ d ∷ t → s ≡ t
same_after c d s t e = cc

some_is_none : (c : ℕ) (s : List ℕ) → c ∷ s ≡ [] → ⊥
some_is_none c s e = cc

stays_empty : Stays []
unfolding Stays
stays_empty word all e = sym (normal_none (λ c. c)) ∙ e

stays_character : (c : ℕ) (s : List ℕ) → c ≢ 37 → Stays s → Stays (c ∷ s)
unfolding Stays
stays_character c s ne rest [] all e = absurd (some_is_none c (normal_text s) (sym (normal_character (λ d. d) c s ne) ∙ e))
stays_character c s ne rest (d ∷ word) all e =
    let front : c ∷ normal_text s ≡ d ∷ word = sym (normal_character (λ x. x) c s ne) ∙ e in
    ap (λ x. x ∷ s) (same_front c d (normal_text s) word front)
    ∙ ap (λ t. d ∷ t) (rest word (and_parts (eqb d 46) (list_all (λ x. eqb x 46) word) all).1 (same_after c d (normal_text s) word front))

stays_triple : (high low : ℕ) (s : List ℕ) → is_ascii_hexdigit high ≡ true → is_ascii_hexdigit low ≡ true → 16 * hex_value high + hex_value low ≢ 46 → Stays (37 ∷ high ∷ low ∷ s)
unfolding Stays
stays_triple high low s h l other word all e =
    let front : normal_triple (λ c. c) high low ++ normal_text s ≡ word = sym (normal_triple_front (λ c. c) high low s h l) ∙ e in
    absurd (by_value (is_unreserved (16 * hex_value high + hex_value low)) refl word all front)
  where
    begins : (c : ℕ) (t : List ℕ) → c ≢ 46 → (word : List ℕ) → AllDots word → c ∷ t ≡ word → ⊥
    begins c t ne [] all e = some_is_none c t e
    begins c t ne (d ∷ word) all e = ne (same_front c d t word e ∙ eqb-true d 46 (and_parts (eqb d 46) (list_all (λ x. eqb x 46) word) all).0)

    by_value : (b : Bool) → is_unreserved (16 * hex_value high + hex_value low) ≡ b → (word : List ℕ) → AllDots word → normal_triple (λ c. c) high low ++ normal_text s ≡ word → ⊥
    by_value true is word all e =
        let once : normal_triple (λ c. c) high low ≡ (16 * hex_value high + hex_value low) ∷ [] = rw is refl in
        begins (16 * hex_value high + hex_value low) (normal_text s) other word all (ap (λ t. t ++ normal_text s) (sym once) ∙ e)
    by_value false is word all e =
        let once : normal_triple (λ c. c) high low ≡ 37 ∷ to_ascii_uppercase high ∷ to_ascii_uppercase low ∷ [] = rw is refl in
        begins 37 (to_ascii_uppercase high ∷ to_ascii_uppercase low ∷ normal_text s) (λ f. absurd (omega (arith, f))) word all (ap (λ t. t ++ normal_text s) (sym once) ∙ e)

-- a triple of `.`
dot_high : (high low : ℕ) → is_ascii_hexdigit high ≡ true → is_ascii_hexdigit low ≡ true → 16 * hex_value high + hex_value low ≡ 46 → high ≡ 50
dot_high high low h l e = grind (arith, nat_tests)

dot_low : (high low : ℕ) → is_ascii_hexdigit high ≡ true → is_ascii_hexdigit low ≡ true → 16 * hex_value high + hex_value low ≡ 46 → low ≢ 101 → low ≡ 69
dot_low high low h l e ne = grind (arith, nat_tests)

no_dot : (high low : ℕ) (t : List ℕ) → is_ascii_hexdigit high ≡ true → is_ascii_hexdigit low ≡ true → LacksEncodedDot (37 ∷ high ∷ low ∷ t) → 16 * hex_value high + hex_value low ≢ 46
no_dot high low t h l lacks = λ e.
    let two : high ≡ 50 = dot_high high low h l e in
    elim (cases_eq low 101) [
      | inl small ↦ (lacks [] t).0 (ap (λ x. 37 ∷ x ∷ low ∷ t) two ∙ ap (λ x. 37 ∷ 50 ∷ x ∷ t) small)
      | inr other ↦ (lacks [] t).1 (ap (λ x. 37 ∷ x ∷ low ∷ t) two ∙ ap (λ x. 37 ∷ 50 ∷ x ∷ t) (dot_low high low h l e other))
    ]

-- the segments of a path that lacks them
pub segments_stay : (path : List ℕ) → has_whole_triples path ≡ true → LacksEncodedDot path → AllByRecursion Stays (segments path)
segments_stay =
    by_units (λ t. LacksEncodedDot t → AllByRecursion Stays (segments t))
    (λ lacks. (stays_empty, tt))
    (λ c t ne whole rest lacks.
    let behind = rest (λ before after. (λ e. (lacks (c ∷ before) after).0 (ap (λ x. c ∷ x) e), λ e. (lacks (c ∷ before) after).1 (ap (λ x. c ∷ x) e))) in
    elim (cases_eq c 47) [
      | inl slash ↦ subst (AllByRecursion Stays) (sym (segments-slash c t slash)) (stays_empty, behind)
      | inr other ↦ subst (AllByRecursion Stays) (sym (segments-other c t other)) (each_onto Stays c (segments t) (stays_character c [] ne stays_empty) (λ s h. stays_character c s ne h) behind)
    ])
    (λ high low t h l whole rest lacks.
    let behind = rest (λ before after. (λ e. (lacks (37 ∷ high ∷ low ∷ before) after).0 (ap (λ x. 37 ∷ high ∷ low ∷ x) e), λ e. (lacks (37 ∷ high ∷ low ∷ before) after).1 (ap (λ x. 37 ∷ high ∷ low ∷ x) e))) in
    let other = no_dot high low t h l lacks in
    subst (AllByRecursion Stays) (sym (segments-triple high low t h l)) (each_onto_triple Stays high low (segments t) (stays_triple high low [] h l other) (λ s k. stays_triple high low s h l other) behind))

-- A segment that is the same dot segment, or none, in normal form.
record Same (s : List ℕ) : Type 0 where
  dot : is_dot (normal_text s) ≡ is_dot s
  dots : is_dot_dot (normal_text s) ≡ is_dot_dot s

dot_stays : normal_text (codes ".") ≡ codes "."
dot_stays = normal_character (λ c. c) 46 [] (λ e. absurd (omega (arith, e))) ∙ ap (λ t. 46 ∷ t) (normal_none (λ c. c))

dots_stay : normal_text (codes "..") ≡ codes ".."
dots_stay = normal_character (λ c. c) 46 (46 ∷ []) (λ e. absurd (omega (arith, e))) ∙ ap (λ t. 46 ∷ t) dot_stays

same : (s : List ℕ) → Stays s → Same s
unfolding Stays
same s stays = record { dot = of_word (codes ".") refl dot_stays; dots = of_word (codes "..") refl dots_stay }
  where
    of_word : (word : List ℕ) → AllDots word → normal_text word ≡ word → bytes_eq (normal_text s) word ≡ bytes_eq s word
    of_word word all settled =
        elim (cases_Bool (bytes_eq s word)) [
          | inl is ↦ (bytes_eq-Decides (normal_text s) word).1 (ap normal_text ((bytes_eq-Decides s word).0 is) ∙ settled) ∙ sym is
          | inr other ↦ false_from_ne_true (bytes_eq (normal_text s) word) (λ h. false≢true (sym other ∙ (bytes_eq-Decides s word).1 (stays word all ((bytes_eq-Decides (normal_text s) word).0 h)))) ∙ sym other
        ]

each_same : (parts : List (List ℕ)) → AllByRecursion Stays parts → AllByRecursion Same parts
each_same [] h = tt
each_same (s ∷ parts) h = (same s h.0, each_same parts h.1)

same_segment : (s : List ℕ) → Same s → is_dot_segment (normal_text s) ≡ is_dot_segment s
same_segment s h = ap (λ b. b || is_dot_dot (normal_text s)) h.dot ∙ ap (λ b. is_dot s || b) h.dots

-- what remains of segments in normal form
reverse-map : (xs : List (List ℕ)) → reverse (map normal_text xs) ≡ map normal_text (reverse xs)
reverse-map [] = refl
reverse-map (x ∷ xs) =
    reverse-append (normal_text x ∷ []) (map normal_text xs) ∙ ap (λ t. t ++ normal_text x ∷ []) (reverse-map xs) ∙ sym (map-append normal_text (reverse xs) (x ∷ []))
    ∙ ap (map normal_text) (sym (reverse-append (x ∷ []) xs))

first-map : (first : List ℕ) (kept : List (List ℕ)) (s : List ℕ) → Same s → first_after (normal_text first) (map normal_text kept) (normal_text s) ≡ normal_text (first_after first kept s)
first-map first kept s h =
    ap (λ b. cond (b && eqb (length (map normal_text kept)) 0) [] (normal_text first)) h.dots
    ∙ ap (λ n. cond (is_dot_dot s && eqb n 0) [] (normal_text first)) (length-map kept normal_text)
    ∙ root (is_dot_dot s && eqb (length kept) 0)
  where
    root : (b : Bool) → cond b [] (normal_text first) ≡ normal_text (cond b [] first)
    root true = sym (normal_none (λ c. c))
    root false = refl

kept-map : (kept : List (List ℕ)) (s : List ℕ) → Same s → kept_after (map normal_text kept) (normal_text s) ≡ map normal_text (kept_after kept s)
kept-map kept s h =
    ap (λ b. cond b (map normal_text kept) (cond (is_dot_dot (normal_text s)) (drop 1 (map normal_text kept)) (normal_text s ∷ map normal_text kept))) h.dot
    ∙ ap (λ b. cond (is_dot s) (map normal_text kept) (cond b (drop 1 (map normal_text kept)) (normal_text s ∷ map normal_text kept))) h.dots
    ∙ ap (λ t. cond (is_dot s) (map normal_text kept) (cond (is_dot_dot s) t (normal_text s ∷ map normal_text kept))) (drop-map normal_text 1 kept)
    ∙ both (is_dot s) (is_dot_dot s)
  where
    both : (a b : Bool) → cond a (map normal_text kept) (cond b (map normal_text (drop 1 kept)) (normal_text s ∷ map normal_text kept)) ≡ map normal_text (cond a kept (cond b (drop 1 kept) (s ∷ kept)))
    both true b = refl
    both false true = refl
    both false false = refl

remaining-map : (first : List ℕ) (kept rest : List (List ℕ)) → AllByRecursion Same rest → remaining_segments (normal_text first) (map normal_text kept) (map normal_text rest) ≡ map normal_text (remaining_segments first kept rest)
remaining-map first kept [] all = ap (λ t. normal_text first ∷ t) (reverse-map kept)
remaining-map first kept (s ∷ rest) all =
    ap (λ f. remaining_segments f (kept_after (map normal_text kept) (normal_text s)) (map normal_text rest)) (first-map first kept s all.0)
    ∙ ap (λ k. remaining_segments (normal_text (first_after first kept s)) k (map normal_text rest)) (kept-map kept s all.0)
    ∙ remaining-map (first_after first kept s) (kept_after kept s) rest all.1

ends-map : (parts : List (List ℕ)) → AllByRecursion Same parts → ends_in_dots (map normal_text parts) ≡ ends_in_dots parts
ends-map [] all = refl
ends-map (s ∷ []) all = same_segment s all.0
ends-map (s ∷ next ∷ rest) all = ends-map (next ∷ rest) all.1

prefix-map : (parts : List (List ℕ)) → AllByRecursion Same parts → prefix_len is_dot_segment (map normal_text parts) ≡ prefix_len is_dot_segment parts
prefix-map [] all = refl
prefix-map (s ∷ rest) all =
    ap (λ b. cond b (1 + prefix_len is_dot_segment (map normal_text rest)) 0) (same_segment s all.0)
    ∙ ap (λ n. cond (is_dot_segment s) (1 + n) 0) (prefix-map rest all.1)

without-map : (parts : List (List ℕ)) → AllByRecursion Same parts → without_dots (map normal_text parts) ≡ map normal_text (without_dots parts)
without-map [] all = refl
without-map (first ∷ rest) all =
    ap (λ t. t ++ cond (ends_in_dots (map normal_text rest)) ([] ∷ []) []) (remaining-map first [] rest all.1)
    ∙ ap (λ b. map normal_text (remaining_segments first [] rest) ++ cond b ([] ∷ []) []) (ends-map rest all.1)
    ∙ ap (λ t. map normal_text (remaining_segments first [] rest) ++ t) (root (ends_in_dots rest))
    ∙ sym (map-append normal_text (remaining_segments first [] rest) (cond (ends_in_dots rest) ([] ∷ []) []))
  where
    root : (b : Bool) → cond b ([] ∷ []) [] ≡ map normal_text (cond b ([] ∷ []) [])
    root true = ap (λ t. t ∷ []) (sym (normal_none (λ c. c)))
    root false = refl

-- what segments of whole triples join to
slashes-map : (parts : List (List ℕ)) → AllByRecursion (λ s. has_whole_triples s ≡ true) parts → after_slashes (map normal_text parts) ≡ normal_text (after_slashes parts)
slashes-map [] all = sym (normal_none (λ c. c))
slashes-map (s ∷ parts) all =
    ap (λ t. 47 ∷ (normal_text s ++ t)) (slashes-map parts all.1) ∙ ap (λ t. 47 ∷ t) (sym (normal-append s (after_slashes parts) all.0))
    ∙ sym (normal_character (λ c. c) 47 (s ++ after_slashes parts) (λ e. absurd (omega (arith, e))))

joined-map : (parts : List (List ℕ)) → AllByRecursion (λ s. has_whole_triples s ≡ true) parts → joined_segments (map normal_text parts) ≡ normal_text (joined_segments parts)
joined-map [] all = sym (normal_none (λ c. c))
joined-map (first ∷ rest) all = ap (λ t. normal_text first ++ t) (slashes-map rest all.1) ∙ sym (normal-append first (after_slashes rest) all.0)

-- the normal form of such a path, without its dot segments
pub removed_normal : (path : List ℕ) → has_whole_triples path ≡ true → AllByRecursion Stays (segments path) → remove_dot_segments (normal_text path) ≡ normal_text (remove_dot_segments path)
unfolding remove_dot_segments
removed_normal path whole stay =
    let parts = segments path in
    let n = prefix_len is_dot_segment parts in
    let all = each_same parts stay in
    ap (λ xs. joined_segments (without_dots (drop (prefix_len is_dot_segment xs) xs))) (written_segments Normal path whole)
    ∙ ap (λ k. joined_segments (without_dots (drop k (map normal_text parts)))) (prefix-map parts all)
    ∙ ap (λ xs. joined_segments (without_dots xs)) (drop-map normal_text n parts)
    ∙ ap joined_segments (without-map (drop n parts) (each_drop Same n parts all))
    ∙ joined-map (without_dots (drop n parts)) (each_without_dots (λ s. has_whole_triples s ≡ true) refl (drop n parts) (each_drop (λ s. has_whole_triples s ≡ true) n parts (segments_are_whole path whole)))

-- names stay names in normal form
pub names_stay_names : (parts : List (List ℕ)) → AllByRecursion Stays parts → AreNames parts → AreNames (map normal_text parts)
names_stay_names [] stay names = tt
names_stay_names (s ∷ parts) stay names = (same_segment s (same s stay.0) ∙ names.0, names_stay_names parts stay.1 names.1)
