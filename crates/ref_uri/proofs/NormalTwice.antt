-- The normal form of a normal form is itself.
--
-- 1. Characters: a triple, then a text of whole triples, is as it was when it is put in normal form again (`encoded_twice`).
-- 2. Paths: segments in normal form are settled, and none of those that are kept is a dot segment, so that a second removal finds
--    nothing to take away (`removed_twice`); nor does the guard `/.` come back (`path_twice`).
-- 3. Each component apart (`authority_twice`, `query_twice`), then all of them (`components_twice`), then the text (`normal_twice`).
-- 4. A text without a scheme is resolved against the default base: its target is settled too (`resolved_normal`), so what any text
--    means is its own normal form (`parsed_is_normal`).
use Rattle.std.proofs.Common.{◌≡◌, ◌≢◌, ℕ, suc, ◌+◌, ◌*◌, Bool, true, false, cond, ◌&&◌, ◌||◌, List, [], ◌∷◌, ◌++◌, length, drop, get_or, map, reverse, eqb, refl, sym, ap, ◌∙◌, subst, arith, inl, inr, Option, Some, None, is_some, is_none, option_map, Result, Ok, Err, codes, append_assoc, append-nil}
use Rattle.std.specs.List.{list_all, AllByRecursion, prefix_len}
use Rattle.std.specs.Char.{is_ascii_hexdigit, to_ascii_lowercase, to_ascii_uppercase}
use Rattle.std.proofs.lemmas.Bool.{cases_Bool, eqb-true, and_parts, false≢true}
use Rattle.std.proofs.lemmas.Bool.Decides.{nat_tests}
use Rattle.std.proofs.lemmas.List.{reverse-append}
use Rattle.std.proofs.lemmas.Str.Ascii.{lowercase-lowercase, uppercase-uppercase}
use Rattle.ref_uri.specs.Characters.{has_whole_triples, is_unreserved, is_encoded, is_userinfo_character, is_path_character, is_query_character}
use Rattle.ref_uri.specs.Authority.{is_authority, userinfo, host, port_part}
use Rattle.ref_uri.specs.Components.{Components, components, are_components, scheme, text_of, if_there, is_query, begins_with_slashes}
use Rattle.ref_uri.specs.DotSegments.{segments, after_slashes, joined_segments, is_dot, is_dot_dot, is_dot_segment, first_after, kept_after, remaining_segments, ends_in_dots, without_dots, remove_dot_segments}
use Rattle.ref_uri.specs.Normal.{hex_value, normal_triple, normal_encoded, normal_text, normal_host, normal_port_part, normal_authority, guarded_path, normal_components, normal_path, normal_form}
use Rattle.ref_uri.specs.Reference.{is_uri_reference}
use Rattle.ref_uri.specs.Resolution.{merged_path, query_or, target_path, with_guard, target_text, resolved_components}
use Rattle.ref_uri.specs.Targets.{Refusal, parse_refusal, uri_of, default_base}
use Rattle.ref_uri.proofs.OnLiterals.{ref_uri_on_literals}
use Rattle.ref_uri.specs.declared.written.Form.TheVariants.{Normal}
use Rattle.ref_uri.proofs.EncodedLemmas.{whole-append}
use Rattle.ref_uri.proofs.Induction.{by_units}
use Rattle.ref_uri.proofs.NormalLemmas.{normal_none, normal_character, normal_triple_front}
use Rattle.ref_uri.proofs.WrittenLemmas.{Keeps, keeps_as_is, keeps_lower, normal_is_whole, written_segments}
use Rattle.ref_uri.proofs.SegmentLemmas.{segments-run, segments-shape, segments_are_whole, segments_hold_no_slash, segments-append}
use Rattle.ref_uri.proofs.RemovalLaws.{HasNoSlash}
use Rattle.ref_uri.proofs.AuthorityParts.{host_is_whole}
use Rattle.ref_uri.proofs.AuthorityText.{text_of_parts, parts_found, parts_of_authority}
use Rattle.ref_uri.proofs.NormalValid.{normal_parts, normal_authority-parts}
use Rattle.ref_uri.proofs.PathValid.{each_append, each_reverse, each_without_dots, each_drop}
use Rattle.ref_uri.proofs.UniqueLemmas.{Tested, tested, components-text_of}
use Rattle.ref_uri.proofs.TargetLemmas.{each_same, the_components}
use Rattle.ref_uri.proofs.ValidTargets.{normal_is_valid, resolved_is_valid}
use Rattle.ref_uri.proofs.Meanings.{default_is_reference, parsed_with_scheme, parsed_without_scheme, parsed_refused}
use Rattle.ref_uri.proofs.WrittenUri.{components_hold, normal_text_of, resolved_text_of}

-- what becomes of letters twice is what becomes of them once
pub record Settles (fold : ℕ → ℕ) : Type 0 where
  pub keeps : Keeps fold
  pub twice : (c : ℕ) → fold (fold c) ≡ fold c

pub settles_as_is : Settles (λ c. c)
settles_as_is = record { keeps = keeps_as_is; twice = λ c. refl }

pub settles_lower : Settles to_ascii_lowercase
settles_lower = record { keeps = keeps_lower; twice = lowercase-lowercase }

upper_hex : (c : ℕ) → is_ascii_hexdigit c ≡ true → is_ascii_hexdigit (to_ascii_uppercase c) ≡ true
upper_hex c h = grind (arith, nat_tests)

same_value : (c : ℕ) → is_ascii_hexdigit c ≡ true → hex_value (to_ascii_uppercase c) ≡ hex_value c
same_value c h = grind (arith, nat_tests)

unreserved_apart : (c : ℕ) → is_unreserved c ≡ true → c ≢ 37
unreserved_apart c h = λ e. grind (arith, nat_tests)

-- a triple in normal form, before a text
triple_twice : (fold : ℕ → ℕ) → Settles fold → (high low : ℕ) (rest : List ℕ) → is_ascii_hexdigit high ≡ true → is_ascii_hexdigit low ≡ true → normal_encoded fold (normal_triple fold high low ++ rest) ≡ normal_triple fold high low ++ normal_encoded fold rest
triple_twice fold s high low rest h l = by_value (is_unreserved (16 * hex_value high + hex_value low)) refl
  where
    value : ℕ
    value = 16 * hex_value high + hex_value low

    by_value : (b : Bool) → is_unreserved (16 * hex_value high + hex_value low) ≡ b → normal_encoded fold (normal_triple fold high low ++ rest) ≡ normal_triple fold high low ++ normal_encoded fold rest
    by_value true e =
        let once : normal_triple fold high low ≡ fold value ∷ [] = rw e refl in
        ap (λ t. normal_encoded fold (t ++ rest)) once ∙ normal_character fold (fold value) rest (s.keeps.apart value (unreserved_apart value e))
        ∙ ap (λ c. c ∷ normal_encoded fold rest) (s.twice value) ∙ ap (λ t. t ++ normal_encoded fold rest) (sym once)
    by_value false e =
        let once : normal_triple fold high low ≡ 37 ∷ to_ascii_uppercase high ∷ to_ascii_uppercase low ∷ [] = rw e refl in
        let same : 16 * hex_value (to_ascii_uppercase high) + hex_value (to_ascii_uppercase low) ≡ value = ap (λ x. 16 * x + hex_value (to_ascii_uppercase low)) (same_value high h) ∙ ap (λ x. 16 * hex_value high + x) (same_value low l) in
        let again : normal_triple fold (to_ascii_uppercase high) (to_ascii_uppercase low) ≡ 37 ∷ to_ascii_uppercase high ∷ to_ascii_uppercase low ∷ [] =
        rw (ap is_unreserved same ∙ e) (ap (λ c. 37 ∷ c ∷ to_ascii_uppercase (to_ascii_uppercase low) ∷ []) (uppercase-uppercase high) ∙ ap (λ c. 37 ∷ to_ascii_uppercase high ∷ c ∷ []) (uppercase-uppercase low)) in
        ap (λ t. normal_encoded fold (t ++ rest)) once ∙ normal_triple_front fold (to_ascii_uppercase high) (to_ascii_uppercase low) rest (upper_hex high h) (upper_hex low l)
        ∙ ap (λ t. t ++ normal_encoded fold rest) (again ∙ sym once)

-- a text in normal form stays as it is
pub encoded_twice : (fold : ℕ → ℕ) → Settles fold → (text : List ℕ) → has_whole_triples text ≡ true → normal_encoded fold (normal_encoded fold text) ≡ normal_encoded fold text
encoded_twice fold s =
    by_units (λ t. normal_encoded fold (normal_encoded fold t) ≡ normal_encoded fold t)
    (ap (normal_encoded fold) (normal_none fold))
    (λ c t ne whole rest.
    ap (normal_encoded fold) (normal_character fold c t ne) ∙ normal_character fold (fold c) (normal_encoded fold t) (s.keeps.apart c ne)
    ∙ ap (λ x. x ∷ normal_encoded fold (normal_encoded fold t)) (s.twice c) ∙ ap (λ r. fold c ∷ r) rest ∙ sym (normal_character fold c t ne))
    (λ high low t h l whole rest.
    ap (normal_encoded fold) (normal_triple_front fold high low t h l) ∙ triple_twice fold s high low (normal_encoded fold t) h l
    ∙ ap (λ r. normal_triple fold high low ++ r) rest ∙ sym (normal_triple_front fold high low t h l))

-- a text of two parts
pub normal-append : (p q : List ℕ) → has_whole_triples p ≡ true → normal_text (p ++ q) ≡ normal_text p ++ normal_text q
normal-append p q whole =
    by_units (λ t. normal_text (t ++ q) ≡ normal_text t ++ normal_text q)
    (ap (λ t. t ++ normal_text q) (sym (normal_none (λ c. c))))
    (λ c t ne w rest. normal_character (λ d. d) c (t ++ q) ne ∙ ap (λ r. c ∷ r) rest ∙ ap (λ r. r ++ normal_text q) (sym (normal_character (λ d. d) c t ne)))
    (λ high low t h l w rest.
    normal_triple_front (λ d. d) high low (t ++ q) h l ∙ ap (λ r. normal_triple (λ d. d) high low ++ r) rest
    ∙ sym (append_assoc (normal_triple (λ d. d) high low) (normal_text t) (normal_text q)) ∙ ap (λ r. r ++ normal_text q) (sym (normal_triple_front (λ d. d) high low t h l)))
    p whole

-- Segments in normal form, of whole triples.
IsSettled : List ℕ → Type 0
IsSettled s = (has_whole_triples s ≡ true) × (normal_text s ≡ s)

root_settled : IsSettled []
unfolding IsSettled
root_settled = (refl, normal_none (λ c. c))

slashes_settled : (parts : List (List ℕ)) → AllByRecursion IsSettled parts → (has_whole_triples (after_slashes parts) ≡ true) × (normal_text (after_slashes parts) ≡ after_slashes parts)
unfolding IsSettled
slashes_settled [] h = (refl, normal_none (λ c. c))
slashes_settled (s ∷ parts) h =
    let rest = slashes_settled parts h.1 in (
      whole-append s (after_slashes parts) h.0.0 rest.0,
      normal_character (λ c. c) 47 (s ++ after_slashes parts) (λ e. absurd (omega arith))
          ∙ ap (λ t. 47 ∷ t) (normal-append s (after_slashes parts) h.0.0 ∙ ap (λ t. t ++ normal_text (after_slashes parts)) h.0.1 ∙ ap (λ t. s ++ t) rest.1),
    )

joined_settled : (parts : List (List ℕ)) → AllByRecursion IsSettled parts → normal_text (joined_segments parts) ≡ joined_segments parts
unfolding IsSettled
joined_settled [] h = normal_none (λ c. c)
joined_settled (first ∷ rest) h =
    let behind = slashes_settled rest h.1 in
    normal-append first (after_slashes rest) h.0.0 ∙ ap (λ t. t ++ normal_text (after_slashes rest)) h.0.1 ∙ ap (λ t. first ++ t) behind.1

segments_settled : (path : List ℕ) → has_whole_triples path ≡ true → AllByRecursion IsSettled (segments (normal_text path))
unfolding IsSettled
segments_settled path whole = subst (AllByRecursion IsSettled) (sym (written_segments Normal path whole)) (each_settled (segments path) (segments_are_whole path whole))
  where
    each_settled : (parts : List (List ℕ)) → AllByRecursion (λ s. has_whole_triples s ≡ true) parts → AllByRecursion IsSettled (map normal_text parts)
    each_settled [] h = tt
    each_settled (s ∷ parts) h = ((normal_is_whole (λ c. c) keeps_as_is s h.0, encoded_twice (λ c. c) settles_as_is s h.0), each_settled parts h.1)

-- a path in normal form, without its dot segments, is in normal form
removed_settled : (path : List ℕ) → has_whole_triples path ≡ true → normal_text (remove_dot_segments (normal_text path)) ≡ remove_dot_segments (normal_text path)
unfolding remove_dot_segments
removed_settled path whole =
    let parts = drop (prefix_len is_dot_segment (segments (normal_text path))) (segments (normal_text path)) in
    joined_settled (without_dots parts) (each_without_dots IsSettled root_settled parts (each_drop IsSettled (prefix_len is_dot_segment (segments (normal_text path))) (segments (normal_text path)) (segments_settled path whole)))

-- A segment that is no dot segment.
abbrev NoDots : List ℕ → Type 0
NoDots s = is_dot_segment s ≡ false

neither : (a b : Bool) → (a || b) ≡ false → (a ≡ false) × (b ≡ false)
neither true b h = absurd (false≢true (sym h))
neither false b h = (refl, h)

-- no dot segment is kept
kept_dotless : (first : List ℕ) (kept : List (List ℕ)) (s : List ℕ) → AllByRecursion NoDots (first ∷ kept) → AllByRecursion NoDots (first_after first kept s ∷ kept_after kept s)
kept_dotless first kept s all = (
  elim (is_dot_dot s && eqb (length kept) 0) as (λ b. NoDots (cond b [] first)) [ true ↦ refl | false ↦ all.0 ],
  elim (cases_Bool (is_dot s)) [
    | inl dot ↦ subst (λ (b : Bool). AllByRecursion NoDots (cond b kept (cond (is_dot_dot s) (drop 1 kept) (s ∷ kept)))) (sym dot) all.1
    | inr other ↦
        elim (cases_Bool (is_dot_dot s)) [
          | inl dots ↦ rw (other, dots) (all_but_first kept all.1)
          | inr name ↦ rw (other, name) (rw (other, name) refl, all.1)
        ]
  ],
)
  where
    all_but_first : (xs : List (List ℕ)) → AllByRecursion NoDots xs → AllByRecursion NoDots (drop 1 xs)
    all_but_first [] each = tt
    all_but_first (x ∷ xs) each = each.1

remaining_dotless : (first : List ℕ) (kept rest : List (List ℕ)) → AllByRecursion NoDots (first ∷ kept) → AllByRecursion NoDots (remaining_segments first kept rest)
remaining_dotless first kept [] all = (all.0, each_reverse NoDots kept all.1)
remaining_dotless first kept (s ∷ rest) all = remaining_dotless (first_after first kept s) (kept_after kept s) rest (kept_dotless first kept s all)

dropped_dotless : (parts : List (List ℕ)) → AllByRecursion NoDots (without_dots (drop (prefix_len is_dot_segment parts) parts))
dropped_dotless [] = tt
dropped_dotless (s ∷ rest) = elim (cases_Bool (is_dot_segment s)) [ inl dots ↦ at_dots dots (dropped_dotless rest) | inr name ↦ at_name name ]
  where
    one_more : drop (1 + prefix_len is_dot_segment rest) (s ∷ rest) ≡ drop (prefix_len is_dot_segment rest) rest
    one_more = let e : 1 + prefix_len is_dot_segment rest ≡ suc (prefix_len is_dot_segment rest) = omega arith in rw e refl

    at_dots : is_dot_segment s ≡ true → AllByRecursion NoDots (without_dots (drop (prefix_len is_dot_segment rest) rest)) → AllByRecursion NoDots (without_dots (drop (prefix_len is_dot_segment (s ∷ rest)) (s ∷ rest)))
    at_dots dots rec =
        subst (λ (n : ℕ). AllByRecursion NoDots (without_dots (drop n (s ∷ rest)))) (sym (ap (λ b. cond b (1 + prefix_len is_dot_segment rest) 0) dots))
        (subst (λ (t : List (List ℕ)). AllByRecursion NoDots (without_dots t)) (sym one_more) rec)

    at_name : is_dot_segment s ≡ false → AllByRecursion NoDots (without_dots (drop (prefix_len is_dot_segment (s ∷ rest)) (s ∷ rest)))
    at_name name =
        subst (λ (n : ℕ). AllByRecursion NoDots (without_dots (drop n (s ∷ rest)))) (sym (ap (λ b. cond b (1 + prefix_len is_dot_segment rest) 0) name))
        (each_append NoDots (remaining_segments s [] rest) (cond (ends_in_dots rest) ([] ∷ []) []) (remaining_dotless s [] rest (name, tt))
        (elim (ends_in_dots rest) as (λ b. AllByRecursion NoDots (cond b ([] ∷ []) [])) [ true ↦ (refl, tt) | false ↦ tt ]))

-- segments of which none is a dot segment stay
keep_all : (first : List ℕ) (kept rest : List (List ℕ)) → AllByRecursion NoDots rest → remaining_segments first kept rest ≡ first ∷ (reverse kept ++ rest)
keep_all first kept [] all = ap (λ xs. first ∷ xs) (sym (append-nil (reverse kept)))
keep_all first kept (s ∷ rest) all =
    let apart = neither (is_dot s) (is_dot_dot s) all.0 in
    ap (λ b. remaining_segments (cond (b && eqb (length kept) 0) [] first) (kept_after kept s) rest) apart.1
    ∙ ap (λ k. remaining_segments first k rest) (ap (λ b. cond b kept (cond (is_dot_dot s) (drop 1 kept) (s ∷ kept))) apart.0 ∙ ap (λ b. cond b (drop 1 kept) (s ∷ kept)) apart.1)
    ∙ keep_all first (s ∷ kept) rest all.1
    ∙ ap (λ xs. first ∷ xs) (ap (λ xs. xs ++ rest) (reverse-append (s ∷ []) kept) ∙ append_assoc (reverse kept) (s ∷ []) rest)

no_end : (rest : List (List ℕ)) → AllByRecursion NoDots rest → ends_in_dots rest ≡ false
no_end [] all = refl
no_end (s ∷ []) all = all.0
no_end (s ∷ next ∷ rest) all = no_end (next ∷ rest) all.1

all_stay : (first : List ℕ) (rest : List (List ℕ)) → AllByRecursion NoDots rest → without_dots (first ∷ rest) ≡ first ∷ rest
all_stay first rest all =
    ap (λ b. remaining_segments first [] rest ++ cond b ([] ∷ []) []) (no_end rest all) ∙ append-nil (remaining_segments first [] rest) ∙ keep_all first [] rest all

-- the segments of what they join to
alone : (s : List ℕ) → HasNoSlash s → segments s ≡ s ∷ []
alone s h = ap segments (sym (append-nil s)) ∙ segments-run s [] [] [] h refl ∙ ap (λ t. t ∷ []) (append-nil s)

segments_joined : (first : List ℕ) (rest : List (List ℕ)) → AllByRecursion HasNoSlash (first ∷ rest) → segments (joined_segments (first ∷ rest)) ≡ first ∷ rest
segments_joined first [] all = ap segments (append-nil first) ∙ alone first all.0
segments_joined first (s ∷ rest) all = segments-append first (joined_segments (s ∷ rest)) ∙ ap (λ xs. xs ++ segments (joined_segments (s ∷ rest))) (alone first all.0) ∙ ap (λ xs. first ∷ xs) (segments_joined s rest all.1)

-- segments without slashes and dots
stay_removed : (parts : List (List ℕ)) → AllByRecursion HasNoSlash parts → AllByRecursion NoDots parts → remove_dot_segments (joined_segments parts) ≡ joined_segments parts
unfolding remove_dot_segments
stay_removed [] plain dotless = refl
stay_removed (first ∷ rest) plain dotless =
    ap (λ xs. joined_segments (without_dots (drop (prefix_len is_dot_segment xs) xs))) (segments_joined first rest plain)
    ∙ ap (λ b. joined_segments (without_dots (drop (cond b (1 + prefix_len is_dot_segment rest) 0) (first ∷ rest)))) dotless.0
    ∙ ap joined_segments (all_stay first rest dotless.1)

-- a path without its dot segments
parts_of : List ℕ → List (List ℕ)
parts_of path = without_dots (drop (prefix_len is_dot_segment (segments path)) (segments path))

removed_is : (path : List ℕ) → remove_dot_segments path ≡ joined_segments (parts_of path)
unfolding remove_dot_segments parts_of
removed_is path = refl

parts_plain : (path : List ℕ) → AllByRecursion HasNoSlash (parts_of path)
unfolding parts_of
parts_plain path =
    each_without_dots HasNoSlash refl (drop (prefix_len is_dot_segment (segments path)) (segments path)) (each_drop HasNoSlash (prefix_len is_dot_segment (segments path)) (segments path) (segments_hold_no_slash path))

parts_dotless : (path : List ℕ) → AllByRecursion NoDots (parts_of path)
unfolding parts_of
parts_dotless path = dropped_dotless (segments path)

pub removed_twice : (path : List ℕ) → remove_dot_segments (remove_dot_segments path) ≡ remove_dot_segments path
removed_twice path = ap remove_dot_segments (removed_is path) ∙ stay_removed (parts_of path) (parts_plain path) (parts_dotless path) ∙ sym (removed_is path)

-- the guard goes with the dot segments
pub guard_goes : (text : List ℕ) → remove_dot_segments (47 ∷ 46 ∷ 47 ∷ text) ≡ remove_dot_segments (47 ∷ text)
unfolding remove_dot_segments
guard_goes text =
    let shape = segments-shape text in
    ap (λ xs. joined_segments (remaining_segments [] [] xs ++ cond (ends_in_dots ((46 ∷ []) ∷ xs)) ([] ∷ []) [])) shape.2
    ∙ ap (λ xs. joined_segments (remaining_segments [] [] xs ++ cond (ends_in_dots xs) ([] ∷ []) [])) (sym shape.2)

pub guarded_removed : (a : Option (List ℕ)) (path : List ℕ) → remove_dot_segments (normal_text (guarded_path a path)) ≡ remove_dot_segments (normal_text path)
guarded_removed a path = by_guard (is_none a && begins_with_slashes path) refl
  where
    behind : (path : List ℕ) → begins_with_slashes path ≡ true → remove_dot_segments (normal_text (47 ∷ 46 ∷ path)) ≡ remove_dot_segments (normal_text path)
    behind [] h = absurd (false≢true h)
    behind (c ∷ rest) h =
        let slash : c ≡ 47 = eqb-true c 47 (and_parts (eqb c 47) (eqb (get_or rest 0 0) 47) h).0 in
        let front : normal_text (c ∷ rest) ≡ 47 ∷ normal_text rest = ap (λ x. normal_text (x ∷ rest)) slash ∙ normal_character (λ d. d) 47 rest (λ e. absurd (omega (arith, e))) in
        ap remove_dot_segments
        (normal_character (λ d. d) 47 (46 ∷ c ∷ rest) (λ e. absurd (omega (arith, e))) ∙ ap (λ t. 47 ∷ t) (normal_character (λ d. d) 46 (c ∷ rest) (λ e. absurd (omega (arith, e)))) ∙ ap (λ t. 47 ∷ 46 ∷ t) front)
        ∙ guard_goes (normal_text rest) ∙ ap remove_dot_segments (sym front)

    by_guard : (b : Bool) → (is_none a && begins_with_slashes path) ≡ b → remove_dot_segments (normal_text (guarded_path a path)) ≡ remove_dot_segments (normal_text path)
    by_guard true e =
        let put : guarded_path a path ≡ 47 ∷ 46 ∷ path = rw e refl in
        ap (λ p. remove_dot_segments (normal_text p)) put ∙ behind path (and_parts (is_none a) (begins_with_slashes path) e).1
    by_guard false e =
        let left : guarded_path a path ≡ path = rw e refl in
        ap (λ p. remove_dot_segments (normal_text p)) left

-- a guarded path in normal form stays as it is
path_again : (a : Option (List ℕ)) (path : List ℕ) → has_whole_triples path ≡ true → guarded_path a (remove_dot_segments (normal_text (guarded_path a (remove_dot_segments (normal_text path))))) ≡ guarded_path a (remove_dot_segments (normal_text path))
path_again a path whole =
    ap (guarded_path a) (guarded_removed a (remove_dot_segments (normal_text path)) ∙ ap remove_dot_segments (removed_settled path whole) ∙ removed_twice (normal_text path))

path_twice : (a : Option (List ℕ)) (path : List ℕ) → has_whole_triples path ≡ true → guarded_path (option_map normal_authority a) (remove_dot_segments (normal_text (guarded_path a (remove_dot_segments (normal_text path))))) ≡ guarded_path a (remove_dot_segments (normal_text path))
path_twice a path whole = same_guard a (remove_dot_segments (normal_text (guarded_path a (remove_dot_segments (normal_text path))))) ∙ path_again a path whole
  where
    same_guard : (a : Option (List ℕ)) (p : List ℕ) → guarded_path (option_map normal_authority a) p ≡ guarded_path a p
    same_guard None p = refl
    same_guard (Some x) p = refl

-- an authority in normal form stays as it is
authority_twice : (text : List ℕ) → is_authority text ≡ true → normal_authority (normal_authority text) ≡ normal_authority text
authority_twice text h =
    let are = parts_of_authority text h in
    let u = option_map normal_text (userinfo text) in
    let g = normal_host (host text) in
    let p = normal_port_part (port_part text) in
    let found = parts_found u g p (normal_parts (userinfo text) (host text) (port_part text) are) in
    ap normal_authority (normal_authority-parts text) ∙ normal_authority-parts (text_of_parts u g p)
    ∙ ap (λ x. text_of_parts (option_map normal_text x) (normal_host (host (text_of_parts u g p))) (normal_port_part (port_part (text_of_parts u g p)))) found.userinfo_is
    ∙ ap (λ x. text_of_parts (option_map normal_text u) (normal_host x) (normal_port_part (port_part (text_of_parts u g p)))) found.host_is
    ∙ ap (λ x. text_of_parts (option_map normal_text u) (normal_host g) (normal_port_part x)) found.port_is
    ∙ ap (λ x. text_of_parts x (normal_host g) (normal_port_part p)) (userinfo_twice (userinfo text) are.userinfo_test)
    ∙ ap (λ x. text_of_parts u x (normal_port_part p)) (encoded_twice to_ascii_lowercase settles_lower (host text) (host_is_whole (host text) are.host_test))
    ∙ ap (λ x. text_of_parts u g x) (port_twice (port_part text))
    ∙ sym (normal_authority-parts text)
  where
    userinfo_twice : (o : Option (List ℕ)) → if_there (is_encoded is_userinfo_character) o ≡ true → option_map normal_text (option_map normal_text o) ≡ option_map normal_text o
    userinfo_twice None k = refl
    userinfo_twice (Some x) k = ap (λ t. Some t) (encoded_twice (λ c. c) settles_as_is x (and_parts (list_all (λ c. is_userinfo_character c || eqb c 37) x) (has_whole_triples x) k).1)

    port_twice : (part : List ℕ) → normal_port_part (normal_port_part part) ≡ normal_port_part part
    port_twice part = elim (cases_Bool (eqb (length part) 1)) [ inl one ↦ rw one refl | inr other ↦ rw other (rw other refl) ]

authority_there_twice : (o : Option (List ℕ)) → if_there is_authority o ≡ true → option_map normal_authority (option_map normal_authority o) ≡ option_map normal_authority o
authority_there_twice None k = refl
authority_there_twice (Some x) k = ap (λ y. Some y) (authority_twice x k)

-- a query or a fragment in normal form stays as it is
query_twice : (o : Option (List ℕ)) → if_there is_query o ≡ true → option_map normal_text (option_map normal_text o) ≡ option_map normal_text o
query_twice None h = refl
query_twice (Some x) h = ap (λ t. Some t) (encoded_twice (λ c. c) settles_as_is x (and_parts (list_all (λ c. is_query_character c || eqb c 37) x) (has_whole_triples x) h).1)

-- components in normal form stay as they are
components_twice : (c : Components) → are_components c ≡ true → normal_components (normal_components c) ≡ normal_components c
components_twice c h = each_same (normal_components (normal_components c)) (normal_components c) (scheme_twice c.scheme) (authority_there_twice c.authority t.authority_test) (path_of c.scheme) (query_twice c.query t.query_test) (query_twice c.fragment t.fragment_test)
  where
    t : Tested c
    t = tested c h

    whole : has_whole_triples c.path ≡ true
    whole = (and_parts (list_all (λ x. is_path_character x || eqb x 37) c.path) (has_whole_triples c.path) t.path_test).1

    lower_twice : (xs : List ℕ) → map to_ascii_lowercase (map to_ascii_lowercase xs) ≡ map to_ascii_lowercase xs
    lower_twice [] = refl
    lower_twice (x ∷ xs) = ap (λ y. y ∷ map to_ascii_lowercase (map to_ascii_lowercase xs)) (lowercase-lowercase x) ∙ ap (λ ys. to_ascii_lowercase x ∷ ys) (lower_twice xs)

    scheme_twice : (o : Option (List ℕ)) → option_map (map to_ascii_lowercase) (option_map (map to_ascii_lowercase) o) ≡ option_map (map to_ascii_lowercase) o
    scheme_twice None = refl
    scheme_twice (Some x) = ap (λ y. Some y) (lower_twice x)

    path_of : (s : Option (List ℕ)) → normal_path (option_map (map to_ascii_lowercase) s) (option_map normal_authority c.authority) (normal_path s c.authority c.path) ≡ normal_path s c.authority c.path
    path_of None = encoded_twice (λ x. x) settles_as_is c.path whole
    path_of (Some x) = path_twice c.authority c.path whole

-- the normal form of a normal form
pub normal_twice : (text : List ℕ) → is_uri_reference text ≡ true → normal_form (normal_form text) ≡ normal_form text
unfolding normal_form
normal_twice text h =
    let c = components text in
    let valid = components_hold text h in
    ap (λ d. text_of (normal_components d)) (components-text_of (normal_components c) (normal_is_valid c valid)) ∙ ap text_of (components_twice c valid)

-- The target of a normal form against the base of texts without a scheme.
abbrev pub default_components : Components
default_components = the_components (Some (codes "json-schema")) (Some []) (codes "/") None None

pub default_is : components default_base ≡ default_components
unfolding ref_uri_on_literals
default_is = refl

scheme_settled : map to_ascii_lowercase (codes "json-schema") ≡ codes "json-schema"
scheme_settled = refl

pub authority_settled : normal_authority [] ≡ []
unfolding ref_uri_on_literals
authority_settled = refl

pub root_is : remove_dot_segments (normal_text (codes "/")) ≡ codes "/"
unfolding ref_uri_on_literals
root_is = refl

merged_is : (path : List ℕ) → merged_path default_components path ≡ 47 ∷ path
merged_is path = refl

target_settles : (a : Option (List ℕ)) (path : List ℕ) (q f : Option (List ℕ)) → has_whole_triples path ≡ true → option_map normal_authority a ≡ a → option_map normal_text q ≡ q → option_map normal_text f ≡ f → normal_components (the_components (Some (codes "json-schema")) a (guarded_path a (remove_dot_segments (normal_text path))) q f) ≡ the_components (Some (codes "json-schema")) a (guarded_path a (remove_dot_segments (normal_text path))) q f
target_settles a path q f whole authority query fragment =
    each_same (normal_components (the_components (Some (codes "json-schema")) a (guarded_path a (remove_dot_segments (normal_text path))) q f)) (the_components (Some (codes "json-schema")) a (guarded_path a (remove_dot_segments (normal_text path))) q f) (ap (λ x. Some x) scheme_settled) authority (path_again a path whole) query fragment

-- the path and the query of the one or of the other
abbrev of_both : Bool → Components → Components → Components
of_both empty kept behind = record kept { path = cond empty kept.path behind.path; query = cond empty kept.query behind.query }

resolved_settles : (a : Option (List ℕ)) (path : List ℕ) (q f : Option (List ℕ)) → has_whole_triples path ≡ true → option_map normal_authority a ≡ a → option_map normal_text q ≡ q → option_map normal_text f ≡ f → normal_components (resolved_components default_components (the_components None a (normal_text path) q f)) ≡ resolved_components default_components (the_components None a (normal_text path) q f)
resolved_settles (Some x) path q f whole authority query fragment = target_settles (Some x) path q f whole authority query fragment
resolved_settles None path q f whole authority query fragment =
    let kept = the_components (Some (codes "json-schema")) (Some []) (codes "/") (query_or q None) f in
    let behind = the_components (Some (codes "json-schema")) (Some []) (target_path default_components (normal_text path)) q f in
    elim (eqb (length (normal_text path)) 0) as (λ empty. normal_components (with_guard (of_both empty kept behind)) ≡ with_guard (of_both empty kept behind)) [
      | true ↦
          subst (λ (o : Option (List ℕ)). normal_components (the_components (Some (codes "json-schema")) (Some []) (codes "/") o f) ≡ the_components (Some (codes "json-schema")) (Some []) (codes "/") o f) (sym (own_query q))
          (subst (λ (p : List ℕ). normal_components (the_components (Some (codes "json-schema")) (Some []) p q f) ≡ the_components (Some (codes "json-schema")) (Some []) p q f) root_is (target_settles (Some []) (codes "/") q f refl (ap (λ x. Some x) authority_settled) query fragment))
      | false ↦
          elim (eqb (get_or (normal_text path) 0 0) 47) as (λ slash. normal_components (the_components (Some (codes "json-schema")) (Some []) (cond slash (remove_dot_segments (normal_text path)) (remove_dot_segments (merged_path default_components (normal_text path)))) q f) ≡ the_components (Some (codes "json-schema")) (Some []) (cond slash (remove_dot_segments (normal_text path)) (remove_dot_segments (merged_path default_components (normal_text path)))) q f) [
            | true ↦ target_settles (Some []) path q f whole (ap (λ x. Some x) authority_settled) query fragment
            | false ↦
                subst (λ (p : List ℕ). normal_components (the_components (Some (codes "json-schema")) (Some []) (remove_dot_segments p) q f) ≡ the_components (Some (codes "json-schema")) (Some []) (remove_dot_segments p) q f)
                (normal_character (λ c. c) 47 path (λ e. absurd (omega arith)) ∙ sym (merged_is (normal_text path)))
                (target_settles (Some []) (47 ∷ path) q f whole (ap (λ x. Some x) authority_settled) query fragment)
          ]
    ]
  where
    own_query : (q : Option (List ℕ)) → query_or q None ≡ q
    own_query None = refl
    own_query (Some x) = refl

default_hold : are_components default_components ≡ true
default_hold = ap are_components (sym default_is) ∙ components_hold default_base default_is_reference

pub components_of_normal : (text : List ℕ) → is_uri_reference text ≡ true → components (normal_form text) ≡ normal_components (components text)
unfolding normal_form
components_of_normal text h = components-text_of (normal_components (components text)) (normal_is_valid (components text) (components_hold text h))

-- what a text without a scheme means is its own normal form
pub resolved_normal : (text : List ℕ) → is_uri_reference text ≡ true → is_some (scheme text) ≡ false → normal_form (target_text default_base (normal_form text)) ≡ target_text default_base (normal_form text)
resolved_normal text h none =
    let c = components text in
    let valid = components_hold text h in
    let t = tested c valid in
    let n = the_components None (option_map normal_authority c.authority) (normal_text c.path) (option_map normal_text c.query) (option_map normal_text c.fragment) in
    let absent : c.scheme ≡ None = no_scheme c.scheme none in
    let normal_is : normal_components c ≡ n = each_same (normal_components c) n (ap (option_map (map to_ascii_lowercase)) absent) refl (ap (λ s. normal_path s c.authority c.path) absent) refl refl in
    let n_valid : are_components n ≡ true = ap are_components (sym normal_is) ∙ normal_is_valid c valid in
    let target = resolved_components default_components n in
    let target_valid = resolved_is_valid default_components n (codes "json-schema") refl default_hold n_valid in
    let whole : has_whole_triples c.path ≡ true = (and_parts (list_all (λ x. is_path_character x || eqb x 37) c.path) (has_whole_triples c.path) t.path_test).1 in
    let settles = resolved_settles (option_map normal_authority c.authority) c.path (option_map normal_text c.query) (option_map normal_text c.fragment) whole (authority_there_twice c.authority t.authority_test) (query_twice c.query t.query_test) (query_twice c.fragment t.fragment_test) in
    let is : target_text default_base (normal_form text) ≡ text_of target =
    sym (resolved_text_of default_components n default_base (normal_form text) (sym default_is) (sym (components_of_normal text h ∙ normal_is))) in
    ap normal_form is ∙ sym (normal_text_of target (text_of target) (sym (components-text_of target target_valid))) ∙ ap text_of settles ∙ sym is
  where
    no_scheme : (o : Option (List ℕ)) → is_some o ≡ false → o ≡ None
    no_scheme None k = refl
    no_scheme (Some x) k = absurd (false≢true (sym k))

-- each answer is its own normal form
pub parsed_is_normal : (text uri : List ℕ) → uri_of text ≡ Ok uri → normal_form uri ≡ uri
parsed_is_normal text uri is =
    elim (cases_Bool (is_uri_reference text)) [
      | inr no_reference ↦ absurd (err_is_no_ok (sym (parsed_refused text no_reference) ∙ is))
      | inl h ↦
          elim (cases_Bool (is_some (scheme text))) [
            | inl there ↦ same_answer (normal_form text) (normal_twice text h) (sym (parsed_with_scheme text h there) ∙ is)
            | inr none ↦ same_answer (target_text default_base (normal_form text)) (resolved_normal text h none) (sym (parsed_without_scheme text h none) ∙ is)
          ]
    ]
  where
    err_is_no_ok : ◌≡◌ {A = Result (List ℕ) Refusal} (Err (parse_refusal text)) (Ok uri) → ⊥
    err_is_no_ok e = cc

    same_answer : (answer : List ℕ) → normal_form answer ≡ answer → ◌≡◌ {A = Result (List ℕ) Refusal} (Ok answer) (Ok uri) → normal_form uri ≡ uri
    same_answer answer settled e =
        let same : answer ≡ uri = cc in
        ap normal_form (sym same) ∙ settled ∙ same
