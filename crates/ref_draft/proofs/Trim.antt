-- What `trim_end_matches` gives at the character `#` is the text without the `#` characters at its end.
use Rattle.std.proofs.Common.{◌≡◌, ◌≢◌, ℕ, ◌≤◌, ◌+◌, ◌-◌, List, [], ◌∷◌, ◌++◌, length, take, Bool, true, false, Option, Some, None, IfSome, nat_eq, Bor, MatchOption, drop, option_map, reverse, cond, ◌==◌, refl, sym, ap, ◌∙◌, arith, rules}
use Rattle.std.specs.List.{prefix_len, suffix_len}
use Rattle.std.proofs.lemmas.List.{reverse-append, reverse-reverse, length-append, take-append-le, take_all}
use Rattle.std.specs.Str.Pattern.{FindsCharSuffix, CutsSuffixes, IsTrimEndMatches}
use Rattle.std.specs.Str.Pattern.{FindsCharPrefix}
use Rattle.std.proofs.lemmas.Str.Pattern.{ends_char, strip_prefix_char}
use Rattle.ref_draft.specs.Anchors.{after_hash}
use Rattle.ref_draft.specs.Schema.{trimmed_text}

abbrev is_hash : ℕ → Bool
is_hash c = c == 35

trimmed-hash : (text : List ℕ) → trimmed_text (text ++ (35 ∷ [])) ≡ trimmed_text text
trimmed-hash text =
    let run : suffix_len is_hash (text ++ (35 ∷ [])) ≡ 1 + suffix_len is_hash text = ap (prefix_len is_hash) (reverse-append text (35 ∷ [])) in
    let within : length text - suffix_len is_hash text ≤ length text = omega arith in
    let count : length (text ++ (35 ∷ [])) - suffix_len is_hash (text ++ (35 ∷ [])) ≡ length text - suffix_len is_hash text = omega (arith, run, length-append text (35 ∷ [])) in
    ap (λ n. take n (text ++ (35 ∷ []))) count ∙ take-append-le (length text - suffix_len is_hash text) text (35 ∷ []) within

-- cutting one `#` leaves the trimmed text as it was
trimmed-cut : (m : List ℕ) (n : ℕ) → FindsCharSuffix 35 m (Some n) → trimmed_text (take (length m - n) m) ≡ trimmed_text m
trimmed-cut m n finds =
    let within : n ≤ length m = omega (arith, finds.0, finds.1.ends) in
    let width : n ≡ 1 = finds.0 in
    let ends = (ends_char 35 m true (n, finds, within, rw finds.0 finds.2) (omega arith)).0 refl in
    rw width (sym (trimmed-hash (take (length m - 1) m)) ∙ sym (ap trimmed_text ends))

trimmed-cuts : (s : List ℕ) (ns : List ℕ) (r : List ℕ) → CutsSuffixes (FindsCharSuffix 35) s ns r → trimmed_text r ≡ trimmed_text s
trimmed-cuts s [] r cuts = ap trimmed_text cuts
trimmed-cuts s (n ∷ ns) r cuts = ap trimmed_text cuts.3 ∙ trimmed-cut cuts.0 n cuts.2 ∙ trimmed-cuts s ns cuts.0 cuts.1

no_run : (c : ℕ) (rest : List ℕ) (b : Bool) → nat_eq c 35 ≡ b → (c ≡ 35 → ⊥) → prefix_len is_hash (c ∷ rest) ≡ 0
no_run c rest true e other = absurd (other (search (rules, e)))
no_run c rest false e other = ap (λ b. cond b (1 + prefix_len is_hash rest) 0) e

run_from : (r back : List ℕ) → reverse r ≡ back → ((front : List ℕ) → r ≢ front ++ (35 ∷ [])) → suffix_len is_hash r ≡ 0
run_from r [] is ends = ap (prefix_len is_hash) is
run_from r (c ∷ back) is ends =
    let whole : r ≡ reverse back ++ (c ∷ []) = sym (reverse-reverse r) ∙ ap reverse is ∙ reverse-append (c ∷ []) back in
    ap (prefix_len is_hash) is ∙ no_run c back (nat_eq c 35) refl (λ hash. ends (reverse back) (whole ∙ ap (λ d. reverse back ++ (d ∷ [])) hash))

-- a text that doesn't end in `#` stays
trimmed-whole : (r : List ℕ) → ((front : List ℕ) → r ≢ front ++ (35 ∷ [])) → trimmed_text r ≡ r
trimmed-whole r ends =
    let run : suffix_len is_hash r ≡ 0 = run_from r (reverse r) refl ends in
    take_all (length r - suffix_len is_hash r) r (omega (arith, run))

trimmed-full : (r : List ℕ) (o : Option ℕ) → FindsCharSuffix 35 r o → IfSome o (λ n. n ≡ 0) → trimmed_text r ≡ r
unfolding lib.Utf8.encode
trimmed-full r None finds empty = trimmed-whole r finds
trimmed-full r (Some n) finds empty = absurd (omega (arith, finds.0, empty))

pub trimmed_is : (s r : List ℕ) → IsTrimEndMatches (FindsCharSuffix 35) s r → r ≡ trimmed_text s
trimmed_is s r h = sym (trimmed-full r h.1.0 h.1.1 h.1.2) ∙ trimmed-cuts s h.0.0 r h.0.1

no_hash : (c : ℕ) (text : List ℕ) (b : Bool) → nat_eq c 35 ≡ b → ((rest : List ℕ) → c ∷ text ≢ 35 ∷ rest) → None ≡ after_hash (c ∷ text)
no_hash c text true e begins = absurd (begins text (ap (λ d. d ∷ text) (search (rules, e))))
no_hash c text false e begins = rw e

after_hash_cases : (text : List ℕ) (r : Option (Bor (List ℕ))) → MatchOption r ((rest : List ℕ) → text ≢ 35 ∷ rest) (λ x. text ≡ 35 ∷ x.now) → option_map (λ x. x.now) r ≡ after_hash text
after_hash_cases [] None h = refl
after_hash_cases (c ∷ text) None h = no_hash c text (nat_eq c 35) refl h
after_hash_cases text (Some x) h = sym (ap after_hash h)

-- What `strip_prefix` gives at the character `#` is what follows it.
pub after_hash_is : (text : List ℕ) (r : Option (Bor (List ℕ))) → MatchOption r (FindsCharPrefix 35 text None) (λ x. (n : ℕ) × FindsCharPrefix 35 text (Some n) × (x.now ≡ drop n text) × (length x.now + n ≡ length text)) → option_map (λ x. x.now) r ≡ after_hash text
after_hash_is text r h = after_hash_cases text r (strip_prefix_char 35 text r h (omega arith))
