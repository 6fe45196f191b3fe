-- Lemmas on characters and triples.
use Rattle.std.proofs.Common.{◌≡◌, ◌≢◌, ℕ, suc, ◌+◌, ◌-◌, ◌<◌, ◌≤◌, Bool, true, false, ◌&&◌, ◌||◌, not, List, [], ◌∷◌, ◌++◌, length, take, drop, get_or, get_or-take, eqb, ltb, refl, sym, ap, ◌∙◌, subst, arith, inl, inr, ◌⊎◌, cond}
use Rattle.std.specs.List.{list_all, list_any, position_or_len, before_first}
use Rattle.std.specs.Char.{is_ascii_hexdigit}
use Rattle.std.proofs.lemmas.Bool.{and_parts, and_from, or_cases, false≢true, eqb-true, cases_eq, ne_eqb, and_right, cases_lt, not-false, false_from_ne_true, eq-eqb}
use Rattle.std.proofs.lemmas.Bool.Decides.{nat_tests}
use Rattle.std.proofs.lemmas.List.{take_more, take-append-drop, length-drop, length-take-le}
use Rattle.std.proofs.Math.Seq.{take-add, drop-cons, take-length}
use Rattle.std.proofs.lemmas.List.Folds.{list_all-append}
use Rattle.std.proofs.lemmas.List.Sums.{position_or_len_is, AllPass-from_list_all, prefix_len-le-length, prefix_len_stops}
use Rattle.ref_uri.specs.Characters.{begins_with_hex_digits, has_whole_triples, is_encoded}
use Rattle.ref_uri.specs.inner.Scans.{begins_with_triple, begins_encoded}
use Rattle.ref_uri.specs.inner.Class.{allows, ends}
use Rattle.ref_uri.specs.declared.characters.Class.{Class}
use Rattle.ref_uri.specs.declared.characters.Class.TheVariants.{FirstSegment, Userinfo, Name, Path, Query}

-- every class allows the hex digits
pub allows_hex : (class : Class) (c : ℕ) → is_ascii_hexdigit c ≡ true → allows class c ≡ true
allows_hex FirstSegment c h = grind (arith, nat_tests)
allows_hex Userinfo c h = grind (arith, nat_tests)
allows_hex Name c h = grind (arith, nat_tests)
allows_hex Path c h = grind (arith, nat_tests)
allows_hex Query c h = grind (arith, nat_tests)

-- no class allows `%` by itself
pub disallows_percent : (class : Class) → allows class 37 ≡ false
disallows_percent FirstSegment = refl
disallows_percent Userinfo = refl
disallows_percent Name = refl
disallows_percent Path = refl
disallows_percent Query = refl

hex_is_no_percent : (c : ℕ) → is_ascii_hexdigit c ≡ true → eqb c 37 ≡ false
hex_is_no_percent c h = grind (arith, nat_tests)

pub or_true : (b : Bool) → (b || true) ≡ true
or_true true = refl
or_true false = refl

pub hex_digits-append : (p q : List ℕ) → begins_with_hex_digits p ≡ true → begins_with_hex_digits (p ++ q) ≡ true
hex_digits-append [] q h = cc
hex_digits-append (a ∷ []) q h = cc
hex_digits-append (a ∷ b ∷ p) q h = h

pub whole-append : (p q : List ℕ) → has_whole_triples p ≡ true → has_whole_triples q ≡ true → has_whole_triples (p ++ q) ≡ true
whole-append [] q h k = k
whole-append (c ∷ p) q h k =
    let parts = and_parts _ _ h in
    and_from _ _
    (elim (eqb c 37) as (λ b. cond b (begins_with_hex_digits p) true ≡ true → cond b (begins_with_hex_digits (p ++ q)) true ≡ true) [
      | true ↦ λ t. hex_digits-append p q t
      | false ↦ λ _. refl
    ] parts.0)
    (whole-append p q parts.1 k)

-- what follows a `%` inside whole triples
pub whole_at : (p : List ℕ) (q : List ℕ) → has_whole_triples (p ++ 37 ∷ q) ≡ true → begins_with_hex_digits q ≡ true
whole_at [] q h = (and_parts _ _ h).0
whole_at (c ∷ p) q h = whole_at p q (and_parts _ _ h).1

pub encoded-append : (allowed : ℕ → Bool) (p q : List ℕ) → is_encoded allowed p ≡ true → is_encoded allowed q ≡ true → is_encoded allowed (p ++ q) ≡ true
encoded-append allowed p q h k =
    let hp = and_parts _ _ h in
    let kq = and_parts _ _ k in
    and_from _ _ (list_all-append (λ c. allowed c || eqb c 37) p q ∙ and_from _ _ hp.0 kq.0) (whole-append p q hp.1 kq.1)

-- one character more
pub encoded_character : (allowed : ℕ → Bool) (p : List ℕ) (c : ℕ) → allowed 37 ≡ false → is_encoded allowed p ≡ true → allowed c ≡ true → is_encoded allowed (p ++ c ∷ []) ≡ true
encoded_character allowed p c apart h k = encoded-append allowed p (c ∷ []) h (single c (cases_eq c 37) k)
  where
    single : (c : ℕ) → ((c ≡ 37) ⊎ (c ≢ 37)) → allowed c ≡ true → is_encoded allowed (c ∷ []) ≡ true
    single c (inl e) k = absurd (false≢true (sym apart ∙ ap allowed (sym e) ∙ k))
    single c (inr e) k = rw k (rw ne_eqb refl)

-- one character more of a text
pub character_more : (class : Class) (text : List ℕ) (i : ℕ) → i < length text → is_encoded (allows class) (take i text) ≡ true → allows class (get_or text i 0) ≡ true → is_encoded (allows class) (take (i + 1) text) ≡ true
character_more class text i lt h k =
    subst (λ (t : List ℕ). is_encoded (allows class) t ≡ true) (sym (take_more text i 0 lt)) (encoded_character (allows class) (take i text) (get_or text i 0) (disallows_percent class) h k)

-- a triple at the front
pub triple_front : (class : Class) (t : List ℕ) → begins_with_triple t ≡ true → (3 ≤ length t) × (is_encoded (allows class) (take 3 t) ≡ true)
triple_front class [] h = absurd (false≢true h)
triple_front class (c ∷ []) h = absurd (false≢true (sym (and_right (eqb c 37) false refl) ∙ h))
triple_front class (c ∷ a ∷ []) h = absurd (false≢true (sym (and_right (eqb c 37) false refl) ∙ h))
triple_front class (c ∷ a ∷ b ∷ t) h =
    let first = and_parts (eqb c 37) (is_ascii_hexdigit a && is_ascii_hexdigit b) h in
    let digits = and_parts (is_ascii_hexdigit a) (is_ascii_hexdigit b) first.1 in
    let high : allows class a ≡ true = allows_hex class a digits.0 in
    let low : allows class b ≡ true = allows_hex class b digits.1 in
    let first_is : eqb c 37 ≡ true = first.0 in
    let high_is : eqb a 37 ≡ false = hex_is_no_percent a digits.0 in
    let low_is : eqb b 37 ≡ false = hex_is_no_percent b digits.1 in
    (omega arith, simp (first_is, high, low, high_is, low_is, digits.0, digits.1, or_true))

-- a triple more of a text
pub triple_more : (class : Class) (text : List ℕ) (i : ℕ) → i ≤ length text → is_encoded (allows class) (take i text) ≡ true → begins_with_triple (drop i text) ≡ true → (i + 3 ≤ length text) × (is_encoded (allows class) (take (i + 3) text) ≡ true)
triple_more class text i le h k =
    let front = triple_front class (drop i text) k in (
      omega (arith, length-drop i text),
      subst (λ (t : List ℕ). is_encoded (allows class) t ≡ true) (sym (take-add i 3 text)) (encoded-append (allows class) (take i text) (take 3 (drop i text)) h front.1),
    )

-- what a part allows doesn't end it, nor does a triple
pub apart : (class : Class) (c : ℕ) → (allows class c || eqb c 37) ≡ true → ends class c ≡ false
apart FirstSegment c h = grind (arith, nat_tests)
apart Userinfo c h = grind (arith, nat_tests)
apart Name c h = grind (arith, nat_tests)
apart Path c h = grind (arith, nat_tests)
apart Query c h = grind (arith, nat_tests)

-- each character in front is one that the part may hold, or a `%`
pub passes_in_front : (class : Class) (text : List ℕ) (n k : ℕ) → k < n → n ≤ length text → is_encoded (allows class) (take n text) ≡ true → (allows class (get_or text k 0) || eqb (get_or text k 0) 37) ≡ true
passes_in_front class text n k lt le h =
    let all = (and_parts (list_all (λ c. allows class c || eqb c 37) (take n text)) (has_whole_triples (take n text)) h).0 in
    let within : k < length (take n text) = omega (arith, length-take-le n text le) in
    subst (λ (c : ℕ). (allows class c || eqb c 37) ≡ true) (get_or-take n text k 0 lt) (AllPass-from_list_all (λ c. allows class c || eqb c 37) (take n text) all k 0 within)

-- where the longest run stops at the end or at what ends the part, it is the part
pub part_is : (class : Class) (text : List ℕ) (n : ℕ) → n ≤ length text → is_encoded (allows class) (take n text) ≡ true → (n < length text → ends class (get_or text n 0) ≡ true) → position_or_len (ends class) text ≡ n
part_is class text n le h stop =
    position_or_len_is (ends class) text n 0 le (λ k lt. apart class (get_or text k 0) (passes_in_front class text n k lt le h)) stop

-- at the first place that passes, it passes
pub passes_at_first : (p : ℕ → Bool) (text : List ℕ) → position_or_len p text < length text → p (get_or text (position_or_len p text) 0) ≡ true
passes_at_first p text lt = not-false _ (prefix_len_stops (λ x. not (p x)) text 0 lt)

-- the end of the part lies after the place
pub ends_later : (class : Class) (text : List ℕ) (n : ℕ) → n < length text → is_encoded (allows class) (take n text) ≡ true → ends class (get_or text n 0) ≡ false → n < position_or_len (ends class) text
ends_later class text n lt h no_end =
    let first = position_or_len (ends class) text in
    elim (cases_lt n first) [
      | inl p ↦ p
      | inr p ↦
          let at_first : ends class (get_or text first 0) ≡ true = passes_at_first (ends class) text (omega arith) in
          elim (cases_eq first n) [
            | inl e ↦ absurd (false≢true (sym no_end ∙ subst (λ (k : ℕ). ends class (get_or text k 0) ≡ true) e at_first))
            | inr e ↦ absurd (false≢true (sym (apart class (get_or text first 0) (passes_in_front class text n first (omega arith) (omega arith) h)) ∙ at_first))
          ]
    ]

-- a longer front, as the shorter one and what follows it
take_from : (text : List ℕ) (n k : ℕ) → n < k → n < length text → take k text ≡ take n text ++ get_or text n 0 ∷ take (k - suc n) (drop (suc n) text)
take_from text n k lt within =
    let same : k ≡ n + suc (k - suc n) = omega arith in
    ap (λ j. take j text) same ∙ take-add n (suc (k - suc n)) text
    ∙ ap (λ t. take n text ++ take (suc (k - suc n)) t) (drop-cons text n 0 within)

-- no longer front is encoded where the run can't go on
pub not_encoded_past : (class : Class) (text : List ℕ) (n k : ℕ) → n < k → k ≤ length text → begins_encoded (allows class) (drop n text) ≡ false → is_encoded (allows class) (take k text) ≡ false
not_encoded_past class text n k past within no_more =
    false_from_ne_true _ (λ e.
    elim (or_cases _ _ (passes_in_front class text k n past within e)) [
      | inl allowed ↦ false≢true (sym no_more ∙ ap (begins_encoded (allows class)) (drop-cons text n 0 (omega arith)) ∙ allowed_first allowed)
      | inr percent ↦ false≢true (sym no_more ∙ ap (begins_encoded (allows class)) (drop-cons text n 0 (omega arith)) ∙ begins_here e (eqb-true _ _ percent))
    ])
  where
    allowed_first : allows class (get_or text n 0) ≡ true → begins_encoded (allows class) (get_or text n 0 ∷ drop (suc n) text) ≡ true
    allowed_first allowed = rw allowed refl

    begins_here : is_encoded (allows class) (take k text) ≡ true → get_or text n 0 ≡ 37 → begins_encoded (allows class) (get_or text n 0 ∷ drop (suc n) text) ≡ true
    begins_here e is =
        let whole = (and_parts (list_all (λ c. allows class c || eqb c 37) (take k text)) (has_whole_triples (take k text)) e).1 in
        let shape = take_from text n k past (omega arith) in
        let digits = whole_at (take n text) (take (k - suc n) (drop (suc n) text))
        (subst (λ c. has_whole_triples (take n text ++ c ∷ take (k - suc n) (drop (suc n) text)) ≡ true) is (subst (λ t. has_whole_triples t ≡ true) shape whole)) in
        let more = hex_digits-append (take (k - suc n) (drop (suc n) text)) (drop (k - suc n) (drop (suc n) text)) digits in
        let all = subst (λ t. begins_with_hex_digits t ≡ true) (take-append-drop (k - suc n) (drop (suc n) text)) more in
        rw (is, all) (or_true (allows class 37))

-- where the run stops at another character, the part isn't encoded
pub part_is_not : (class : Class) (text : List ℕ) (n : ℕ) → n < length text → is_encoded (allows class) (take n text) ≡ true → begins_encoded (allows class) (drop n text) ≡ false → ends class (get_or text n 0) ≡ false → is_encoded (allows class) (before_first (ends class) text) ≡ false
part_is_not class text n lt h no_more no_end =
    not_encoded_past class text n (position_or_len (ends class) text) (ends_later class text n lt h no_end) (prefix_len-le-length (λ x. not (ends class x)) text) no_more

-- the whole text is encoded exactly where the run goes to its end
pub encoded_is_whole : (class : Class) (text : List ℕ) (n : ℕ) → n ≤ length text → is_encoded (allows class) (take n text) ≡ true → begins_encoded (allows class) (drop n text) ≡ false → eqb n (length text) ≡ is_encoded (allows class) text
encoded_is_whole class text n le h no_more =
    elim (cases_eq n (length text)) [
      | inl e ↦ eq-eqb n (length text) e ∙ sym (subst (λ (t : List ℕ). is_encoded (allows class) t ≡ true) (ap (λ k. take k text) e ∙ take-length text) h)
      | inr e ↦
          ne_eqb n (length text) e
          ∙ sym (subst (λ (t : List ℕ). is_encoded (allows class) t ≡ false) (take-length text) (not_encoded_past class text n (length text) (omega arith) (omega arith) no_more))
    ]

-- some element passes exactly where the first that passes is before the end
pub any_is_found : (p : ℕ → Bool) (text : List ℕ) → list_any p text ≡ ltb (position_or_len p text) (length text)
any_is_found p [] = refl
any_is_found p (c ∷ text) =
    elim (p c) as (λ b. (b || list_any p text) ≡ ltb (cond (not b) (1 + position_or_len p text) 0) (suc (length text))) [
      | true ↦ sym (below_suc 0 (length text) (omega arith))
      | false ↦ any_is_found p text ∙ one_more (position_or_len p text) (length text)
    ]
  where
    below_suc : (a b : ℕ) → a ≤ b → ltb a (suc b) ≡ true
    below_suc a b le = grind (arith, nat_tests)

    one_more : (a b : ℕ) → ltb a b ≡ ltb (1 + a) (suc b)
    one_more a b = grind (arith, nat_tests)
