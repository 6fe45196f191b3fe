-- What `trim_end_matches` gives at the character `/` is the text without slashes at its end.
use Rattle.std.proofs.Common.{◌≡◌, ◌≢◌, ℕ, ◌≤◌, ◌+◌, ◌-◌, List, [], ◌∷◌, ◌++◌, length, take, Bool, true, false, Option, Some, None, IfSome, nat_eq, reverse, cond, ◌==◌, refl, sym, ap, ◌∙◌, arith, rules}
use Rattle.std.specs.List.{prefix_len, suffix_len}
use Rattle.std.proofs.lemmas.List.{reverse-append, reverse-reverse, length-append, take-append-le, take_all}
use Rattle.std.specs.Str.Pattern.{FindsCharSuffix, CutsSuffixes, IsTrimEndMatches}
use Rattle.std.proofs.lemmas.Str.Pattern.{ends_char}
use Rattle.ref_files.specs.Meant.{without_slashes}

abbrev is_slash : ℕ → Bool
is_slash c = c == 47

trimmed-slash : (text : List ℕ) → without_slashes (text ++ (47 ∷ [])) ≡ without_slashes text
trimmed-slash text =
    let run : suffix_len is_slash (text ++ (47 ∷ [])) ≡ 1 + suffix_len is_slash text = ap (prefix_len is_slash) (reverse-append text (47 ∷ [])) in
    let within : length text - suffix_len is_slash text ≤ length text = omega arith in
    let count : length (text ++ (47 ∷ [])) - suffix_len is_slash (text ++ (47 ∷ [])) ≡ length text - suffix_len is_slash text = omega (arith, run, length-append text (47 ∷ [])) in
    ap (λ n. take n (text ++ (47 ∷ []))) count ∙ take-append-le (length text - suffix_len is_slash text) text (47 ∷ []) within

-- cutting one `/` leaves the trimmed text as it was
trimmed-cut : (m : List ℕ) (n : ℕ) → FindsCharSuffix 47 m (Some n) → without_slashes (take (length m - n) m) ≡ without_slashes m
trimmed-cut m n finds =
    let within : n ≤ length m = omega (arith, finds.0, finds.1.ends) in
    let width : n ≡ 1 = finds.0 in
    let ends = (ends_char 47 m true (n, finds, within, rw finds.0 finds.2) (omega arith)).0 refl in
    rw width (sym (trimmed-slash (take (length m - 1) m)) ∙ sym (ap without_slashes ends))

trimmed-cuts : (s : List ℕ) (ns : List ℕ) (r : List ℕ) → CutsSuffixes (FindsCharSuffix 47) s ns r → without_slashes r ≡ without_slashes s
trimmed-cuts s [] r cuts = ap without_slashes cuts
trimmed-cuts s (n ∷ ns) r cuts = ap without_slashes cuts.3 ∙ trimmed-cut cuts.0 n cuts.2 ∙ trimmed-cuts s ns cuts.0 cuts.1

no_run : (c : ℕ) (rest : List ℕ) (b : Bool) → nat_eq c 47 ≡ b → (c ≡ 47 → ⊥) → prefix_len is_slash (c ∷ rest) ≡ 0
no_run c rest true e other = absurd (other (search (rules, e)))
no_run c rest false e other = ap (λ b. cond b (1 + prefix_len is_slash rest) 0) e

run_from : (r back : List ℕ) → reverse r ≡ back → ((front : List ℕ) → r ≢ front ++ (47 ∷ [])) → suffix_len is_slash r ≡ 0
run_from r [] is ends = ap (prefix_len is_slash) is
run_from r (c ∷ back) is ends =
    let whole : r ≡ reverse back ++ (c ∷ []) = sym (reverse-reverse r) ∙ ap reverse is ∙ reverse-append (c ∷ []) back in
    ap (prefix_len is_slash) is ∙ no_run c back (nat_eq c 47) refl (λ slash. ends (reverse back) (whole ∙ ap (λ d. reverse back ++ (d ∷ [])) slash))

-- a text that doesn't end in `/` stays
trimmed-whole : (r : List ℕ) → ((front : List ℕ) → r ≢ front ++ (47 ∷ [])) → without_slashes r ≡ r
trimmed-whole r ends =
    let run : suffix_len is_slash r ≡ 0 = run_from r (reverse r) refl ends in
    take_all (length r - suffix_len is_slash r) r (omega (arith, run))

trimmed-full : (r : List ℕ) (o : Option ℕ) → FindsCharSuffix 47 r o → IfSome o (λ n. n ≡ 0) → without_slashes r ≡ r
unfolding lib.Utf8.encode
trimmed-full r None finds empty = trimmed-whole r finds
trimmed-full r (Some n) finds empty = absurd (omega (arith, finds.0, empty))

pub trimmed_is : (s r : List ℕ) → IsTrimEndMatches (FindsCharSuffix 47) s r → r ≡ without_slashes s
trimmed_is s r h = sym (trimmed-full r h.1.0 h.1.1 h.1.2) ∙ trimmed-cuts s h.0.0 r h.0.1
