-- What the normal form of a text keeps.
use Rattle.std.proofs.Common.{◌≡◌, ◌≢◌, ℕ, ◌+◌, ◌*◌, ◌<◌, Bool, true, false, not, ◌&&◌, ◌||◌, List, [], ◌∷◌, map, eqb, refl, sym, ap, ◌∙◌, arith, inl, inr}
use Rattle.std.specs.Char.{is_ascii_hexdigit, to_ascii_lowercase, to_ascii_uppercase}
use Rattle.std.specs.Str.{IsAscii}
use Rattle.std.specs.List.{list_all, onto_first}
use Rattle.std.proofs.lemmas.List.{map-id}
use Rattle.std.proofs.lemmas.List.Folds.{list_all-append}
use Rattle.std.proofs.lemmas.Bool.{cases_Bool, cases_eq, and_parts, and_from, or_cases, ne_eqb, eqb-true}
use Rattle.std.proofs.lemmas.Bool.Decides.{nat_tests}
use Rattle.std.proofs.lemmas.Str.{IsAscii-append, IsAscii-drop}
use Rattle.std.proofs.lemmas.Str.Ascii.{IsAscii-nil, IsAscii-cons, uppercase_ascii}
use Rattle.ref_uri.specs.Characters.{has_whole_triples, is_unreserved, is_encoded}
use Rattle.ref_uri.specs.DotSegments.{segments}
use Rattle.ref_uri.proofs.EncodedLemmas.{whole-append}
use Rattle.ref_uri.proofs.SegmentLemmas.{segments-slash, segments-other, segments-triple, segments-shape, segments-run}
use Rattle.ref_uri.specs.Normal.{hex_value, normal_triple, normal_encoded, normal_text}
use Rattle.ref_uri.specs.inner.Written.{written_text}
use Rattle.ref_uri.specs.declared.written.Form.{Form}
use Rattle.ref_uri.specs.declared.written.Form.TheVariants.{Given, Normal, NormalTarget}
use Rattle.ref_uri.proofs.NormalLemmas.{normal_character, normal_triple_front, normal_none}
use Rattle.ref_uri.proofs.Induction.{by_units}

unreserved_ascii : (c : ℕ) → is_unreserved c ≡ true → c < 128
unreserved_ascii c h = grind (arith, nat_tests)

hex_ascii : (c : ℕ) → is_ascii_hexdigit c ≡ true → c < 128
hex_ascii c h = grind (arith, nat_tests)

-- a triple in normal form is ASCII
pub triple_ascii : (fold : ℕ → ℕ) → ((c : ℕ) → c < 128 → fold c < 128) → (high low : ℕ) → is_ascii_hexdigit high ≡ true → is_ascii_hexdigit low ≡ true → IsAscii (normal_triple fold high low)
triple_ascii fold keeps high low h l =
    elim (cases_Bool (is_unreserved (16 * hex_value high + hex_value low))) [
      | inl e ↦ rw e (IsAscii-cons _ [] (keeps _ (unreserved_ascii _ e)) IsAscii-nil)
      | inr e ↦ rw e (IsAscii-cons 37 (to_ascii_uppercase high ∷ to_ascii_uppercase low ∷ []) (omega arith) (IsAscii-cons (to_ascii_uppercase high) (to_ascii_uppercase low ∷ []) (uppercase_ascii high (hex_ascii high h)) (IsAscii-cons (to_ascii_uppercase low) [] (uppercase_ascii low (hex_ascii low l)) IsAscii-nil)))
    ]

-- the normal form of ASCII text is ASCII
pub normal_ascii : (fold : ℕ → ℕ) → ((c : ℕ) → c < 128 → fold c < 128) → (text : List ℕ) → has_whole_triples text ≡ true → IsAscii text → IsAscii (normal_encoded fold text)
normal_ascii fold keeps =
    by_units (λ t. IsAscii t → IsAscii (normal_encoded fold t))
    (λ ascii. rw (normal_none fold) IsAscii-nil)
    (λ c t ne whole rest ascii. rw (normal_character fold c t ne) (IsAscii-cons (fold c) (normal_encoded fold t) (keeps c (ascii 0)) (rest (IsAscii-drop (c ∷ t) 1 ascii))))
    (λ high low t h l whole rest ascii. rw (normal_triple_front fold high low t h l) (IsAscii-append (normal_triple fold high low) (normal_encoded fold t) (triple_ascii fold keeps high low h l) (rest (IsAscii-drop (37 ∷ high ∷ low ∷ t) 3 ascii))))

pub written_ascii : (form : Form) (text : List ℕ) → has_whole_triples text ≡ true → IsAscii text → IsAscii (written_text form text)
written_ascii Given text h ascii = ascii
written_ascii Normal text h ascii = normal_ascii (λ c. c) (λ c lt. lt) text h ascii
written_ascii NormalTarget text h ascii = normal_ascii (λ c. c) (λ c lt. lt) text h ascii

-- What becomes of letters: it keeps hex digits, unreserved characters and `%` apart, and nothing else becomes `%`.
pub record Keeps (fold : ℕ → ℕ) : Type 0 where
  pub unreserved : (c : ℕ) → is_unreserved c ≡ true → is_unreserved (fold c) ≡ true
  pub apart : (c : ℕ) → c ≢ 37 → fold c ≢ 37

pub keeps_as_is : Keeps (λ c. c)
keeps_as_is = record { unreserved = λ c h. h; apart = λ c ne. ne }

pub keeps_lower : Keeps to_ascii_lowercase
keeps_lower = record { unreserved = λ c h. lower_unreserved c h; apart = λ c ne e. ne (lower_percent c e) }
  where
    lower_unreserved : (c : ℕ) → is_unreserved c ≡ true → is_unreserved (to_ascii_lowercase c) ≡ true
    lower_unreserved c h = grind (arith, nat_tests)

    lower_percent : (c : ℕ) → to_ascii_lowercase c ≡ 37 → c ≡ 37
    lower_percent c e = grind (arith, nat_tests)

upper_hex : (c : ℕ) → is_ascii_hexdigit c ≡ true → is_ascii_hexdigit (to_ascii_uppercase c) ≡ true
upper_hex c h = grind (arith, nat_tests)

-- the characters of a triple in normal form
pub triple_passes : (fold : ℕ → ℕ) → Keeps fold → (q : ℕ → Bool) → ((c : ℕ) → is_unreserved c ≡ true → q c ≡ true) → q 37 ≡ true → ((c : ℕ) → is_ascii_hexdigit c ≡ true → q c ≡ true) → (high low : ℕ) → is_ascii_hexdigit high ≡ true → is_ascii_hexdigit low ≡ true → list_all q (normal_triple fold high low) ≡ true
triple_passes fold keeps q unreserved percent hex high low h l =
    elim (cases_Bool (is_unreserved (16 * hex_value high + hex_value low))) [
      | inl e ↦ rw e (and_from (q (fold (16 * hex_value high + hex_value low))) true (unreserved (fold (16 * hex_value high + hex_value low)) (keeps.unreserved (16 * hex_value high + hex_value low) e)) refl)
      | inr e ↦ rw e (simp (percent, hex (to_ascii_uppercase high) (upper_hex high h), hex (to_ascii_uppercase low) (upper_hex low l)) refl)
    ]

-- what the characters of a text in normal form pass
pub normal_passes : (fold : ℕ → ℕ) → Keeps fold → (p q : ℕ → Bool) → ((c : ℕ) → c ≢ 37 → p c ≡ true → q (fold c) ≡ true) → ((c : ℕ) → is_unreserved c ≡ true → q c ≡ true) → q 37 ≡ true → ((c : ℕ) → is_ascii_hexdigit c ≡ true → q c ≡ true) → (text : List ℕ) → has_whole_triples text ≡ true → list_all p text ≡ true → list_all q (normal_encoded fold text) ≡ true
normal_passes fold keeps p q character unreserved percent hex =
    by_units (λ t. list_all p t ≡ true → list_all q (normal_encoded fold t) ≡ true)
    (λ all. rw (normal_none fold) refl)
    (λ c t ne whole rest all.
    let both = and_parts (p c) (list_all p t) all in
    rw (normal_character fold c t ne) (and_from (q (fold c)) (list_all q (normal_encoded fold t)) (character c ne both.0) (rest both.1)))
    (λ high low t h l whole rest all.
    let behind = and_parts (p low) (list_all p t) (and_parts (p high) (p low && list_all p t) (and_parts (p 37) (p high && (p low && list_all p t)) all).1).1 in
    rw (normal_triple_front fold high low t h l)
    (list_all-append q (normal_triple fold high low) (normal_encoded fold t) ∙ and_from (list_all q (normal_triple fold high low)) (list_all q (normal_encoded fold t)) (triple_passes fold keeps q unreserved percent hex high low h l) (rest behind.1)))

-- whole triples are in a text in normal form
pub normal_is_whole : (fold : ℕ → ℕ) → Keeps fold → (text : List ℕ) → has_whole_triples text ≡ true → has_whole_triples (normal_encoded fold text) ≡ true
normal_is_whole fold keeps =
    by_units (λ t. has_whole_triples (normal_encoded fold t) ≡ true)
    (rw (normal_none fold) refl)
    (λ c t ne whole rest. rw (normal_character fold c t ne) (plain (fold c) (normal_encoded fold t) (keeps.apart c ne) rest))
    (λ high low t h l whole rest. rw (normal_triple_front fold high low t h l) (whole-append (normal_triple fold high low) (normal_encoded fold t) (of_triple high low h l) rest))
  where
    plain : (c : ℕ) (t : List ℕ) → c ≢ 37 → has_whole_triples t ≡ true → has_whole_triples (c ∷ t) ≡ true
    plain c t ne h = rw (ne_eqb c 37 ne) h

    unreserved_apart : (c : ℕ) → is_unreserved c ≡ true → c ≢ 37
    unreserved_apart c h = λ e. grind (arith, nat_tests)

    hex_apart : (c : ℕ) → is_ascii_hexdigit c ≡ true → c ≢ 37
    hex_apart c h = λ e. grind (arith, nat_tests)

    of_triple : (high low : ℕ) → is_ascii_hexdigit high ≡ true → is_ascii_hexdigit low ≡ true → has_whole_triples (normal_triple fold high low) ≡ true
    of_triple high low h l =
        elim (cases_Bool (is_unreserved (16 * hex_value high + hex_value low))) [
          | inl e ↦ rw e (plain (fold (16 * hex_value high + hex_value low)) [] (keeps.apart (16 * hex_value high + hex_value low) (unreserved_apart (16 * hex_value high + hex_value low) e)) refl)
          | inr e ↦
              rw (e, upper_hex high h, upper_hex low l)
              (plain (to_ascii_uppercase high) (to_ascii_uppercase low ∷ []) (hex_apart (to_ascii_uppercase high) (upper_hex high h)) (plain (to_ascii_uppercase low) [] (hex_apart (to_ascii_uppercase low) (upper_hex low l)) refl))
        ]

-- an encoded text in normal form is encoded
pub normal_is_encoded : (fold : ℕ → ℕ) → Keeps fold → (p q : ℕ → Bool) → ((c : ℕ) → p c ≡ true → q (fold c) ≡ true) → ((c : ℕ) → is_unreserved c ≡ true → q c ≡ true) → (text : List ℕ) → is_encoded p text ≡ true → is_encoded q (normal_encoded fold text) ≡ true
normal_is_encoded fold keeps p q character unreserved text h =
    let both = and_parts (list_all (λ c. p c || eqb c 37) text) (has_whole_triples text) h in
    and_from (list_all (λ c. q c || eqb c 37) (normal_encoded fold text)) (has_whole_triples (normal_encoded fold text))
    (normal_passes fold keeps (λ c. p c || eqb c 37) (λ c. q c || eqb c 37) (λ c ne k. passes c ne k) (λ c k. rw (unreserved c k) refl) (or_true (q 37)) (λ c k. rw (unreserved c (hex_unreserved c k)) refl) text both.1 both.0)
    (normal_is_whole fold keeps text both.1)
  where
    or_true : (b : Bool) → (b || true) ≡ true
    or_true true = refl
    or_true false = refl

    hex_unreserved : (c : ℕ) → is_ascii_hexdigit c ≡ true → is_unreserved c ≡ true
    hex_unreserved c k = grind (arith, nat_tests)

    passes : (c : ℕ) → c ≢ 37 → (p c || eqb c 37) ≡ true → (q (fold c) || eqb (fold c) 37) ≡ true
    passes c ne k = elim (or_cases (p c) (eqb c 37) k) [ inl a ↦ rw (character c a) refl | inr e ↦ absurd (ne (eqb-true c 37 e)) ]

-- the segments of a path in normal form are those of the path, in normal form
normal_segments : (path : List ℕ) → has_whole_triples path ≡ true → segments (normal_text path) ≡ map normal_text (segments path)
normal_segments path whole =
    by_units (λ t. segments (normal_text t) ≡ map normal_text (segments t))
    (ap segments (normal_none (λ c. c)) ∙ ap (λ s. s ∷ []) (sym (normal_none (λ c. c))))
    (λ c t ne whole rest. elim (cases_eq c 47) [ inl slash ↦ at_slash c t ne slash rest | inr other ↦ at_other c t ne other rest ])
    (λ high low t h l whole rest. at_triple high low t h l rest)
    path whole
  where
    at_slash : (c : ℕ) (t : List ℕ) → c ≢ 37 → c ≡ 47 → segments (normal_text t) ≡ map normal_text (segments t) → segments (normal_text (c ∷ t)) ≡ map normal_text (segments (c ∷ t))
    at_slash c t ne slash rest =
        ap segments (normal_character (λ c. c) c t ne) ∙ segments-slash c (normal_text t) slash ∙ ap (λ ss. [] ∷ ss) rest
        ∙ ap (λ s. s ∷ map normal_text (segments t)) (sym (normal_none (λ c. c)))
        ∙ ap (map normal_text) (sym (segments-slash c t slash))

    at_other : (c : ℕ) (t : List ℕ) → c ≢ 37 → c ≢ 47 → segments (normal_text t) ≡ map normal_text (segments t) → segments (normal_text (c ∷ t)) ≡ map normal_text (segments (c ∷ t))
    at_other c t ne other rest =
        let shape = segments-shape t in
        ap segments (normal_character (λ c. c) c t ne) ∙ segments-other c (normal_text t) other ∙ ap (onto_first c) (rest ∙ ap (map normal_text) shape.2)
        ∙ ap (λ s. s ∷ map normal_text shape.1) (sym (normal_character (λ c. c) c shape.0 ne))
        ∙ ap (λ ss. map normal_text (onto_first c ss)) (sym shape.2)
        ∙ ap (map normal_text) (sym (segments-other c t other))

    unreserved_no_slash : (c : ℕ) → is_unreserved c ≡ true → not (eqb c 47) ≡ true
    unreserved_no_slash c h = grind (arith, nat_tests)

    hex_no_slash : (c : ℕ) → is_ascii_hexdigit c ≡ true → not (eqb c 47) ≡ true
    hex_no_slash c h = grind (arith, nat_tests)

    at_triple : (high low : ℕ) (t : List ℕ) → is_ascii_hexdigit high ≡ true → is_ascii_hexdigit low ≡ true → segments (normal_text t) ≡ map normal_text (segments t) → segments (normal_text (37 ∷ high ∷ low ∷ t)) ≡ map normal_text (segments (37 ∷ high ∷ low ∷ t))
    at_triple high low t h l rest =
        let shape = segments-shape t in
        let triple = normal_triple (λ c. c) high low in
        ap segments (normal_triple_front (λ c. c) high low t h l)
        ∙ segments-run triple (normal_text t) (normal_text shape.0) (map normal_text shape.1) (triple_passes (λ c. c) keeps_as_is (λ c. not (eqb c 47)) unreserved_no_slash refl hex_no_slash high low h l) (rest ∙ ap (map normal_text) shape.2)
        ∙ ap (λ s. s ∷ map normal_text shape.1) (sym (normal_triple_front (λ c. c) high low shape.0 h l))
        ∙ ap (λ ss. map normal_text (onto_first 37 (onto_first high (onto_first low ss)))) (sym shape.2)
        ∙ ap (map normal_text) (sym (segments-triple high low t h l))

-- the segments of a path that is written are those of the path, written
pub written_segments : (form : Form) (path : List ℕ) → has_whole_triples path ≡ true → segments (written_text form path) ≡ map (written_text form) (segments path)
written_segments Given path whole = sym (map-id (segments path))
written_segments Normal path whole = normal_segments path whole
written_segments NormalTarget path whole = normal_segments path whole
