-- The target of a reference, and a normal form, hold what they may.
use Rattle.std.proofs.Common.{◌≡◌, ℕ, Bool, true, false, cond, not, ◌&&◌, ◌||◌, List, [], ◌∷◌, ◌++◌, length, get_or, map, eqb, refl, sym, ap, ◌∙◌, subst, arith, inl, inr, Option, Some, None, is_some, option_map}
use Rattle.std.specs.List.{list_any, list_all, before_first}
use Rattle.std.specs.Char.{is_ascii_hexdigit, to_ascii_lowercase}
use Rattle.std.proofs.lemmas.Bool.{and_parts, and_from, or_cases, eqb-true, cases_Bool, not-true}
use Rattle.std.proofs.lemmas.Bool.Decides.{nat_tests}
use Rattle.ref_uri.specs.Characters.{has_whole_triples, is_unreserved, is_path_character}
use Rattle.ref_uri.specs.Authority.{is_authority}
use Rattle.ref_uri.specs.Components.{Components, are_components, if_there, is_scheme, is_path, is_query, is_path_after, begins_with_slashes}
use Rattle.ref_uri.specs.DotSegments.{remove_dot_segments}
use Rattle.ref_uri.specs.Normal.{guarded_path, normal_components, normal_path, normal_text, normal_triple, normal_authority}
use Rattle.ref_uri.specs.Resolution.{merged_path, query_or, target_path, with_guard, resolved_components, through_last_slash}
use Rattle.ref_uri.proofs.Induction.{by_units}
use Rattle.ref_uri.proofs.PathLemmas.{before_first-cons}
use Rattle.ref_uri.proofs.NormalLemmas.{normal_none, normal_character, normal_triple_front}
use Rattle.ref_uri.proofs.WrittenLemmas.{keeps_as_is, triple_passes}
use Rattle.ref_uri.proofs.UniqueLemmas.{Tested, tested}
use Rattle.ref_uri.proofs.TargetLemmas.{the_components, slash_in_front, slashes_in_front, target_of_scheme, resolved_of_base, resolved_path, resolved_of_authority}
use Rattle.ref_uri.proofs.NormalValid.{normal_is_authority, lower_is_scheme, normal_is_path, normal_is_query}
use Rattle.ref_uri.proofs.PathValid.{path-append, starts_path, StartsPath, removed_is_path, removed_starts, guarded_is_path, guarded_has_no_slashes, through_is_path, through_starts}

-- components of which each holds what it may
pub from_tests : (c : Components) → Tested c → are_components c ≡ true
unfolding are_components
from_tests c t = and_from _ _ (and_from _ _ (and_from _ _ (and_from _ _ (and_from _ _ t.scheme_test t.authority_test) t.path_test) t.query_test) t.fragment_test) t.place_test

-- where the path of a reference may be
pub place_of : (c : Components) → Tested c → (x : List ℕ) → c.authority ≡ Some x → StartsPath c.path
place_of c t x is = ap (λ a. is_path_after c.scheme a c.path) (sym is) ∙ t.place_test

-- a guarded path may follow a scheme and what is before it
guarded_place : (s : List ℕ) (a : Option (List ℕ)) (path : List ℕ) → ((x : List ℕ) → a ≡ Some x → StartsPath path) → is_path_after (Some s) a (guarded_path a path) ≡ true
guarded_place s (Some x) path starts = starts x refl
guarded_place s None path starts = ap not (guarded_has_no_slashes path)

-- a target with a scheme, guarded
pub valid_target : (s : List ℕ) (a : Option (List ℕ)) (path : List ℕ) (q f : Option (List ℕ)) → is_scheme s ≡ true → if_there is_authority a ≡ true → is_path path ≡ true → if_there is_query q ≡ true → if_there is_query f ≡ true → ((x : List ℕ) → a ≡ Some x → StartsPath path) → are_components (the_components (Some s) a (guarded_path a path) q f) ≡ true
valid_target s a path q f scheme authority is query fragment starts =
    from_tests (the_components (Some s) a (guarded_path a path) q f)
    (record { scheme_test = scheme; authority_test = authority; path_test = guarded_is_path a path is; query_test = query; fragment_test = fragment; place_test = guarded_place s a path starts })

-- a path after the base's
merged_is_path : (base : Components) (path : List ℕ) → is_path base.path ≡ true → is_path path ≡ true → is_path (merged_path base path) ≡ true
merged_is_path base path h k =
    elim (is_some base.authority && eqb (length base.path) 0) as (λ b. is_path (cond b (47 ∷ path) (through_last_slash base.path ++ path)) ≡ true) [
      | true ↦ path-append (47 ∷ []) path refl k
      | false ↦ path-append (through_last_slash base.path) path (through_is_path base.path h) k
    ]

merged_starts : (base : Components) (path x : List ℕ) → base.authority ≡ Some x → StartsPath base.path → StartsPath (merged_path base path)
merged_starts base path x is starts =
    elim (cases_Bool (eqb (length base.path) 0)) [
      | inl empty ↦ rw (is, empty) (or_true (eqb (length (47 ∷ path)) 0))
      | inr some ↦ rw (is, some) (through_starts base.path path starts some)
    ]
  where
    or_true : (b : Bool) → (b || true) ≡ true
    or_true true = refl
    or_true false = refl

-- the path of the target of a reference that has one
target_is_path : (base : Components) (path : List ℕ) → is_path base.path ≡ true → is_path path ≡ true → is_path (target_path base path) ≡ true
target_is_path base path h k =
    elim (eqb (get_or path 0 0) 47) as (λ b. is_path (cond b (remove_dot_segments path) (remove_dot_segments (merged_path base path))) ≡ true) [
      | true ↦ removed_is_path path k
      | false ↦ removed_is_path (merged_path base path) (merged_is_path base path h k)
    ]

target_starts : (base : Components) (path x : List ℕ) → base.authority ≡ Some x → StartsPath base.path → StartsPath (target_path base path)
target_starts base path x is starts =
    elim (cases_Bool (eqb (get_or path 0 0) 47)) [
      | inl slash ↦ rw slash (removed_starts path (rw slash (or_true (eqb (length path) 0))))
      | inr other ↦ rw other (removed_starts (merged_path base path) (merged_starts base path x is starts))
    ]
  where
    or_true : (b : Bool) → (b || true) ≡ true
    or_true true = refl
    or_true false = refl

query_or_test : (q other : Option (List ℕ)) → if_there is_query q ≡ true → if_there is_query other ≡ true → if_there is_query (query_or q other) ≡ true
query_or_test None other h k = k
query_or_test (Some q) other h k = h

-- the target of a reference against a base with a scheme
pub resolved_is_valid : (base reference : Components) (s : List ℕ) → base.scheme ≡ Some s → are_components base ≡ true → are_components reference ≡ true → are_components (resolved_components base reference) ≡ true
resolved_is_valid base reference s is h k = by_scheme reference.scheme refl
  where
    b : Tested base
    b = tested base h

    r : Tested reference
    r = tested reference k

    base_scheme : is_scheme s ≡ true
    base_scheme = ap (if_there is_scheme) (sym is) ∙ b.scheme_test

    with_base : (a : Option (List ℕ)) (path : List ℕ) (q : Option (List ℕ)) → if_there is_authority a ≡ true → is_path path ≡ true → if_there is_query q ≡ true → ((x : List ℕ) → a ≡ Some x → StartsPath path) → are_components (the_components base.scheme a (guarded_path a path) q reference.fragment) ≡ true
    with_base a path q authority is_path_of query place =
        subst (λ (o : Option (List ℕ)). are_components (the_components o a (guarded_path a path) q reference.fragment) ≡ true) (sym is) (valid_target s a path q reference.fragment base_scheme authority is_path_of query r.fragment_test place)

    of_path : reference.scheme ≡ None → reference.authority ≡ None → (empty : Bool) → eqb (length reference.path) 0 ≡ empty → are_components (resolved_components base reference) ≡ true
    of_path none no_authority true empty =
        ap are_components (resolved_of_base base reference none no_authority empty)
        ∙ with_base base.authority base.path (query_or reference.query base.query) b.authority_test b.path_test (query_or_test reference.query base.query r.query_test b.query_test) (place_of base b)
    of_path none no_authority false some =
        ap are_components (resolved_path base reference none no_authority some)
        ∙ with_base base.authority (target_path base reference.path) reference.query b.authority_test (target_is_path base reference.path b.path_test r.path_test) r.query_test (λ x same. target_starts base reference.path x same (place_of base b x same))

    by_authority : reference.scheme ≡ None → (a : Option (List ℕ)) → reference.authority ≡ a → are_components (resolved_components base reference) ≡ true
    by_authority none (Some x) e =
        ap are_components (resolved_of_authority base reference none (ap is_some e))
        ∙ with_base reference.authority (remove_dot_segments reference.path) reference.query r.authority_test (removed_is_path reference.path r.path_test) r.query_test (λ y same. removed_starts reference.path (place_of reference r y same))
    by_authority none None e = of_path none e (eqb (length reference.path) 0) refl

    by_scheme : (o : Option (List ℕ)) → reference.scheme ≡ o → are_components (resolved_components base reference) ≡ true
    by_scheme (Some t) e =
        ap (λ c. are_components (with_guard c)) (target_of_scheme base reference t e)
        ∙ valid_target t reference.authority (remove_dot_segments reference.path) reference.query reference.fragment (ap (if_there is_scheme) (sym e) ∙ r.scheme_test) r.authority_test (removed_is_path reference.path r.path_test) r.query_test r.fragment_test (λ x same. removed_starts reference.path (place_of reference r x same))
    by_scheme None e = by_authority e reference.authority refl

-- the first segment keeps its characters apart from `:`
colons_in_front : (text : List ℕ) → has_whole_triples text ≡ true → list_any (λ c. eqb c 58) (before_first (λ c. eqb c 47) (normal_text text)) ≡ list_any (λ c. eqb c 58) (before_first (λ c. eqb c 47) text)
colons_in_front =
    by_units (λ t. list_any (λ c. eqb c 58) (before_first (λ c. eqb c 47) (normal_text t)) ≡ list_any (λ c. eqb c 58) (before_first (λ c. eqb c 47) t))
    (ap (λ t. list_any (λ c. eqb c 58) (before_first (λ c. eqb c 47) t)) (normal_none (λ c. c)))
    (λ c t ne whole rest.
    ap (λ x. list_any (λ d. eqb d 58) (before_first (λ d. eqb d 47) x)) (normal_character (λ d. d) c t ne)
    ∙ ap (list_any (λ d. eqb d 58)) (before_first-cons (λ d. eqb d 47) c (normal_text t))
    ∙ at_character c (before_first (λ d. eqb d 47) (normal_text t)) (before_first (λ d. eqb d 47) t) rest
    ∙ ap (list_any (λ d. eqb d 58)) (sym (before_first-cons (λ d. eqb d 47) c t)))
    (λ high low t h l whole rest.
    ap (λ x. list_any (λ d. eqb d 58) (before_first (λ d. eqb d 47) x)) (normal_triple_front (λ d. d) high low t h l)
    ∙ run_in_front (normal_triple (λ d. d) high low) (normal_text t) (triple_passes (λ d. d) keeps_as_is neither unreserved_neither refl hex_neither high low h l)
    ∙ rest ∙ sym (run_in_front (37 ∷ high ∷ low ∷ []) t (simp (hex_neither high h, hex_neither low l) refl)))
  where
    neither : ℕ → Bool
    neither c = not (eqb c 47) && not (eqb c 58)

    unreserved_neither : (c : ℕ) → is_unreserved c ≡ true → (not (eqb c 47) && not (eqb c 58)) ≡ true
    unreserved_neither c h = grind (arith, nat_tests)

    hex_neither : (c : ℕ) → is_ascii_hexdigit c ≡ true → (not (eqb c 47) && not (eqb c 58)) ≡ true
    hex_neither c h = grind (arith, nat_tests)

    at_character : (c : ℕ) (a b : List ℕ) → list_any (λ d. eqb d 58) a ≡ list_any (λ d. eqb d 58) b → list_any (λ d. eqb d 58) (cond (eqb c 47) [] (c ∷ a)) ≡ list_any (λ d. eqb d 58) (cond (eqb c 47) [] (c ∷ b))
    at_character c a b e = elim (eqb c 47) as (λ slash. list_any (λ d. eqb d 58) (cond slash [] (c ∷ a)) ≡ list_any (λ d. eqb d 58) (cond slash [] (c ∷ b))) [ true ↦ refl | false ↦ ap (λ x. eqb c 58 || x) e ]

    run_in_front : (run t : List ℕ) → list_all (λ c. not (eqb c 47) && not (eqb c 58)) run ≡ true → list_any (λ d. eqb d 58) (before_first (λ d. eqb d 47) (run ++ t)) ≡ list_any (λ d. eqb d 58) (before_first (λ d. eqb d 47) t)
    run_in_front [] t h = refl
    run_in_front (c ∷ run) t h =
        let both = and_parts (not (eqb c 47) && not (eqb c 58)) (list_all (λ d. not (eqb d 47) && not (eqb d 58)) run) h in
        let apart = and_parts (not (eqb c 47)) (not (eqb c 58)) both.0 in
        let no_slash = not-true (eqb c 47) apart.0 in
        let no_colon = not-true (eqb c 58) apart.1 in
        ap (list_any (λ d. eqb d 58)) (before_first-cons (λ d. eqb d 47) c (run ++ t))
        ∙ ap (λ b. list_any (λ d. eqb d 58) (cond b [] (c ∷ before_first (λ d. eqb d 47) (run ++ t)))) no_slash
        ∙ ap (λ b. b || list_any (λ d. eqb d 58) (before_first (λ d. eqb d 47) (run ++ t))) no_colon ∙ run_in_front run t both.1

-- a path in normal form begins as it did
normal_starts : (path : List ℕ) → has_whole_triples path ≡ true → StartsPath path → StartsPath (normal_text path)
normal_starts [] whole h = ap starts_path (normal_none (λ c. c))
normal_starts (c ∷ path) whole h =
    let slash : eqb c 47 ≡ true = elim (or_cases (eqb (length (c ∷ path)) 0) (eqb c 47) h) [ inl empty ↦ absurd (omega (arith, eqb-true (length (c ∷ path)) 0 empty)) | inr e ↦ e ] in
    rw (slash_in_front (c ∷ path) whole ∙ slash) (or_true (eqb (length (normal_text (c ∷ path))) 0))
  where
    or_true : (b : Bool) → (b || true) ≡ true
    or_true true = refl
    or_true false = refl

-- the normal form of components that hold what they may
pub normal_is_valid : (c : Components) → are_components c ≡ true → are_components (normal_components c) ≡ true
normal_is_valid c h = by_scheme c.scheme refl
  where
    t : Tested c
    t = tested c h

    whole : has_whole_triples c.path ≡ true
    whole = (and_parts (list_all (λ x. is_path_character x || eqb x 37) c.path) (has_whole_triples c.path) t.path_test).1

    authority_test : (a : Option (List ℕ)) → if_there is_authority a ≡ true → if_there is_authority (option_map normal_authority a) ≡ true
    authority_test None k = refl
    authority_test (Some x) k = normal_is_authority x k

    query_test : (q : Option (List ℕ)) → if_there is_query q ≡ true → if_there is_query (option_map normal_text q) ≡ true
    query_test None k = refl
    query_test (Some x) k = normal_is_query x k

    same_guard : (a : Option (List ℕ)) (path : List ℕ) → guarded_path a path ≡ guarded_path (option_map normal_authority a) path
    same_guard None path = refl
    same_guard (Some x) path = refl

    there : (a : Option (List ℕ)) (x : List ℕ) → c.authority ≡ a → option_map normal_authority a ≡ Some x → StartsPath c.path
    there None x e k = absurd (none_is_some k)
      where
        none_is_some : None ≡ Some x → ⊥
        none_is_some e = cc
    there (Some y) x e k = place_of c t y e

    place_without : (a : Option (List ℕ)) → c.scheme ≡ None → c.authority ≡ a → is_path_after None (option_map normal_authority a) (normal_text c.path) ≡ true
    place_without (Some x) s a = normal_starts c.path whole (place_of c t x a)
    place_without None s a =
        let place : (not (begins_with_slashes c.path) ≡ true) × (not (list_any (λ x. eqb x 58) (before_first (λ x. eqb x 47) c.path)) ≡ true) = and_parts (not (begins_with_slashes c.path)) (not (list_any (λ x. eqb x 58) (before_first (λ x. eqb x 47) c.path))) (ap (λ x. is_path_after x None c.path) (sym s) ∙ ap (λ x. is_path_after c.scheme x c.path) (sym a) ∙ t.place_test) in
        and_from (not (begins_with_slashes (normal_text c.path))) (not (list_any (λ x. eqb x 58) (before_first (λ x. eqb x 47) (normal_text c.path)))) (ap not (slashes_in_front c.path whole) ∙ place.0) (ap not (colons_in_front c.path whole) ∙ place.1)

    by_scheme : (s : Option (List ℕ)) → c.scheme ≡ s → are_components (the_components (option_map (map to_ascii_lowercase) s) (option_map normal_authority c.authority) (normal_path s c.authority c.path) (option_map normal_text c.query) (option_map normal_text c.fragment)) ≡ true
    by_scheme (Some x) s =
        let path = remove_dot_segments (normal_text c.path) in
        subst (λ (p : List ℕ). are_components (the_components (Some (map to_ascii_lowercase x)) (option_map normal_authority c.authority) p (option_map normal_text c.query) (option_map normal_text c.fragment)) ≡ true) (sym (same_guard c.authority path))
        (valid_target (map to_ascii_lowercase x) (option_map normal_authority c.authority) path (option_map normal_text c.query) (option_map normal_text c.fragment) (lower_is_scheme x (ap (if_there is_scheme) (sym s) ∙ t.scheme_test)) (authority_test c.authority t.authority_test) (removed_is_path (normal_text c.path) (normal_is_path c.path t.path_test)) (query_test c.query t.query_test) (query_test c.fragment t.fragment_test) (λ y same. removed_starts (normal_text c.path) (normal_starts c.path whole (there c.authority y refl same))))
    by_scheme None s =
        from_tests (the_components None (option_map normal_authority c.authority) (normal_text c.path) (option_map normal_text c.query) (option_map normal_text c.fragment))
        (record { scheme_test = refl; authority_test = authority_test c.authority t.authority_test; path_test = normal_is_path c.path t.path_test; query_test = query_test c.query t.query_test; fragment_test = query_test c.fragment t.fragment_test; place_test = place_without c.authority s refl })
