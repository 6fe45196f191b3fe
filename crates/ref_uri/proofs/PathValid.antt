-- A path without its dot segments is a path, and begins as it did.
use Rattle.std.proofs.Common.{◌≡◌, ℕ, zero, suc, ◌⊎◌, Bool, true, false, cond, not, ◌&&◌, ◌||◌, List, [], ◌∷◌, ◌++◌, length, drop, get_or, reverse, eqb, refl, sym, ap, ◌∙◌, subst, arith, inl, inr, Option, None, is_none, codes}
use Rattle.std.specs.List.{list_all, AllByRecursion, prefix_len}
use Rattle.std.proofs.lemmas.Bool.{and_parts, and_from, or_cases, eqb-true, cases_eq, cases_Bool, false≢true, ne_eqb}
use Rattle.std.proofs.lemmas.List.{reverse-append, length-append, get_or_at, take_at}
use Rattle.std.proofs.lemmas.List.Folds.{list_all-append}
use Rattle.ref_uri.specs.Characters.{has_whole_triples, is_path_character}
use Rattle.ref_uri.specs.Components.{is_path, begins_with_slashes}
use Rattle.ref_uri.specs.DotSegments.{segments, after_slashes, joined_segments, is_dot_dot, is_dot_segment, first_after, kept_after, remaining_segments, ends_in_dots, without_dots, remove_dot_segments}
use Rattle.ref_uri.specs.Normal.{guarded_path}
use Rattle.ref_uri.proofs.EncodedLemmas.{encoded-append}
use Rattle.ref_uri.proofs.SegmentLemmas.{segments-slash, segments_are_whole, segments_pass}
use Rattle.ref_uri.specs.Resolution.{through_last_slash}
use Rattle.ref_uri.proofs.LastSlash.{through_last_slash_at, through_last_slash_none, whole_front}
use Rattle.ref_uri.proofs.RemovalLaws.{HasNoSlash, no_slash_at, slash_is_last, each_kept}

-- what holds of each of two lists
pub each_append : (P : List ℕ → Type 0) (xs ys : List (List ℕ)) → AllByRecursion P xs → AllByRecursion P ys → AllByRecursion P (xs ++ ys)
each_append P [] ys h k = k
each_append P (x ∷ xs) ys h k = (h.0, each_append P xs ys h.1 k)

pub each_reverse : (P : List ℕ → Type 0) (xs : List (List ℕ)) → AllByRecursion P xs → AllByRecursion P (reverse xs)
each_reverse P [] h = tt
each_reverse P (x ∷ xs) h = subst (AllByRecursion P) (sym (reverse-append (x ∷ []) xs)) (each_append P (reverse xs) (x ∷ []) (each_reverse P xs h.1) (h.0, tt))

pub each_remaining : (P : List ℕ → Type 0) → P [] → (first : List ℕ) (kept rest : List (List ℕ)) → AllByRecursion P (first ∷ kept) → AllByRecursion P rest → AllByRecursion P (remaining_segments first kept rest)
each_remaining P root first kept [] h k = (h.0, each_reverse P kept h.1)
each_remaining P root first kept (s ∷ rest) h k = each_remaining P root (first_after first kept s) (kept_after kept s) rest (each_kept P root first kept s h k.0) k.1

pub each_without_dots : (P : List ℕ → Type 0) → P [] → (parts : List (List ℕ)) → AllByRecursion P parts → AllByRecursion P (without_dots parts)
each_without_dots P root [] h = tt
each_without_dots P root (first ∷ rest) h =
    each_append P (remaining_segments first [] rest) (cond (ends_in_dots rest) ([] ∷ []) []) (each_remaining P root first [] rest (h.0, tt) h.1)
    (elim (ends_in_dots rest) as (λ b. AllByRecursion P (cond b ([] ∷ []) [])) [ true ↦ (root, tt) | false ↦ tt ])

pub each_drop : (P : List ℕ → Type 0) (n : ℕ) (xs : List (List ℕ)) → AllByRecursion P xs → AllByRecursion P (drop n xs)
each_drop P zero xs h = h
each_drop P (suc n) [] h = tt
each_drop P (suc n) (x ∷ xs) h = each_drop P n xs h.1

pub path-append : (p q : List ℕ) → is_path p ≡ true → is_path q ≡ true → is_path (p ++ q) ≡ true
path-append p q h k = encoded-append is_path_character p q h k

slashes_are_path : (parts : List (List ℕ)) → AllByRecursion (λ s. is_path s ≡ true) parts → is_path (after_slashes parts) ≡ true
slashes_are_path [] h = refl
slashes_are_path (s ∷ parts) h = path-append (47 ∷ []) (s ++ after_slashes parts) refl (path-append s (after_slashes parts) h.0 (slashes_are_path parts h.1))

joined_is_path : (parts : List (List ℕ)) → AllByRecursion (λ s. is_path s ≡ true) parts → is_path (joined_segments parts) ≡ true
joined_is_path [] h = refl
joined_is_path (first ∷ rest) h = path-append first (after_slashes rest) h.0 (slashes_are_path rest h.1)

segments_are_paths : (path : List ℕ) → is_path path ≡ true → AllByRecursion (λ s. is_path s ≡ true) (segments path)
segments_are_paths path h =
    let both = and_parts (list_all (λ c. is_path_character c || eqb c 37) path) (has_whole_triples path) h in
    together (segments path) (segments_pass (λ c. is_path_character c || eqb c 37) path both.0) (segments_are_whole path both.1)
  where
    together : (xs : List (List ℕ)) → AllByRecursion (λ s. list_all (λ c. is_path_character c || eqb c 37) s ≡ true) xs → AllByRecursion (λ s. has_whole_triples s ≡ true) xs → AllByRecursion (λ s. is_path s ≡ true) xs
    together [] h k = tt
    together (x ∷ xs) h k = (and_from (list_all (λ c. is_path_character c || eqb c 37) x) (has_whole_triples x) h.0 k.0, together xs h.1 k.1)

-- a path without its dot segments is a path
pub removed_is_path : (path : List ℕ) → is_path path ≡ true → is_path (remove_dot_segments path) ≡ true
unfolding remove_dot_segments
removed_is_path path h =
    let parts = drop (prefix_len is_dot_segment (segments path)) (segments path) in
    joined_is_path (without_dots parts) (each_without_dots (λ s. is_path s ≡ true) refl parts (each_drop (λ s. is_path s ≡ true) (prefix_len is_dot_segment (segments path)) (segments path) (segments_are_paths path h)))

-- empty, or after a slash: what may follow an authority
abbrev pub starts_path : List ℕ → Bool
starts_path path = eqb (length path) 0 || eqb (get_or path 0 0) 47

abbrev pub StartsPath : List ℕ → Type 0
StartsPath path = starts_path path ≡ true

-- the root stays
remaining_root : (kept rest : List (List ℕ)) → (xs : List (List ℕ)) × (remaining_segments [] kept rest ≡ [] ∷ xs)
remaining_root kept [] = (reverse kept, refl)
remaining_root kept (s ∷ rest) =
    let same : first_after [] kept s ≡ [] = root_stays kept s in
    let behind = remaining_root (kept_after kept s) rest in
    (behind.0, ap (λ first. remaining_segments first (kept_after kept s) rest) same ∙ behind.1)
  where
    root_stays : (kept : List (List ℕ)) (s : List ℕ) → first_after [] kept s ≡ []
    root_stays kept s = elim (is_dot_dot s && eqb (length kept) 0) as (λ b. cond {A = List ℕ} b [] [] ≡ []) [ true ↦ refl | false ↦ refl ]

-- it begins as it did
pub removed_starts : (path : List ℕ) → StartsPath path → StartsPath (remove_dot_segments path)
unfolding remove_dot_segments
removed_starts [] h = refl
removed_starts (c ∷ path) h =
    let slash : c ≡ 47 = eqb-true c 47 (or_right h) in
    let root = remaining_root [] (segments path) in
    ap (λ parts. starts_path (joined_segments (without_dots (drop (prefix_len is_dot_segment parts) parts)))) (segments-slash c path slash)
    ∙ ap (λ parts. starts_path (joined_segments (parts ++ cond (ends_in_dots (segments path)) ([] ∷ []) []))) root.1
    ∙ slashes_start (root.0 ++ cond (ends_in_dots (segments path)) ([] ∷ []) [])
  where
    or_right : StartsPath (c ∷ path) → eqb c 47 ≡ true
    or_right k = elim (or_cases (eqb (length (c ∷ path)) 0) (eqb c 47) k) [ inl empty ↦ absurd (omega (arith, eqb-true (length (c ∷ path)) 0 empty)) | inr e ↦ e ]

    slashes_start : (parts : List (List ℕ)) → StartsPath (after_slashes parts)
    slashes_start [] = refl
    slashes_start (s ∷ parts) = or_true (eqb (length (after_slashes (s ∷ parts))) 0)
      where
        or_true : (b : Bool) → (b || true) ≡ true
        or_true true = refl
        or_true false = refl

-- a guarded path is a path, and no authority
pub guarded_is_path : (authority : Option (List ℕ)) (path : List ℕ) → is_path path ≡ true → is_path (guarded_path authority path) ≡ true
guarded_is_path authority path h =
    elim (is_none authority && begins_with_slashes path) as (λ b. is_path (cond b (codes "/." ++ path) path) ≡ true) [ true ↦ path-append (codes "/.") path refl h | false ↦ h ]

pub guarded_has_no_slashes : (path : List ℕ) → begins_with_slashes (guarded_path None path) ≡ false
guarded_has_no_slashes path = elim (cases_Bool (begins_with_slashes path)) [ inl slashes ↦ rw slashes refl | inr other ↦ rw other other ]

-- the last slash, if there is one
pub record AtLastSlash (text : List ℕ) : Type 0 where
  pub front : List ℕ
  pub rest : List ℕ
  pub shape : text ≡ front ++ 47 ∷ rest
  pub last : HasNoSlash rest

pub last_slash : (text : List ℕ) → HasNoSlash text ⊎ AtLastSlash text
last_slash [] = inl refl
last_slash (c ∷ text) =
    elim (last_slash text) [
      | inr at ↦ inr (record { front = c ∷ at.front; rest = at.rest; shape = ap (λ t. c ∷ t) at.shape; last = at.last })
      | inl none ↦
          elim (cases_eq c 47) [
            | inl slash ↦ inr (record { front = []; rest = text; shape = ap (λ x. x ∷ text) slash; last = none })
            | inr other ↦ inl (and_from (not (eqb c 47)) (list_all (λ x. not (eqb x 47)) text) (ap not (ne_eqb c 47 other)) none)
          ]
    ]

-- up to and with the last slash
pub through_is : (text : List ℕ) (at : AtLastSlash text) → through_last_slash text ≡ at.front ++ 47 ∷ []
through_is text at =
    ap through_last_slash at.shape
    ∙ through_last_slash_at (at.front ++ 47 ∷ at.rest) (length at.front) (omega (arith, length-append at.front (47 ∷ at.rest))) (get_or_at at.front 47 at.rest 0 (length at.front) refl) (slash_is_last at.front at.rest at.last)
    ∙ ap (λ t. t ++ 47 ∷ []) (take_at at.front (47 ∷ at.rest) (length at.front) refl)

pub through_is_none : (text : List ℕ) → HasNoSlash text → through_last_slash text ≡ []
through_is_none text h = through_last_slash_none text (no_slash_at text h)

-- a path before another
pub through_is_path : (text : List ℕ) → is_path text ≡ true → is_path (through_last_slash text) ≡ true
through_is_path text h =
    elim (last_slash text) [
      | inl none ↦ ap is_path (through_is_none text none)
      | inr at ↦
          let shaped : is_path (at.front ++ 47 ∷ at.rest) ≡ true = subst (λ (t : List ℕ). is_path t ≡ true) at.shape h in
          let both = and_parts (list_all (λ c. is_path_character c || eqb c 37) (at.front ++ 47 ∷ at.rest)) (has_whole_triples (at.front ++ 47 ∷ at.rest)) shaped in
          let front = and_parts (list_all (λ c. is_path_character c || eqb c 37) at.front) (list_all (λ c. is_path_character c || eqb c 37) (47 ∷ at.rest)) (sym (list_all-append (λ c. is_path_character c || eqb c 37) at.front (47 ∷ at.rest)) ∙ both.0) in
          ap is_path (through_is text at) ∙ path-append at.front (47 ∷ []) (and_from (list_all (λ c. is_path_character c || eqb c 37) at.front) (has_whole_triples at.front) front.0 (whole_front at.front at.rest both.1)) refl
    ]

-- a path that begins with a slash begins so through its last slash
pub through_starts : (text more : List ℕ) → StartsPath text → eqb (length text) 0 ≡ false → StartsPath (through_last_slash text ++ more)
through_starts text more h some = by_slash text h some (last_slash text)
  where
    or_true : (b : Bool) → (b || true) ≡ true
    or_true true = refl
    or_true false = refl

    first_is : (c : ℕ) (t : List ℕ) → StartsPath (c ∷ t) → eqb c 47 ≡ true
    first_is c t k = elim (or_cases (eqb (length (c ∷ t)) 0) (eqb c 47) k) [ inl empty ↦ absurd (omega (arith, eqb-true (length (c ∷ t)) 0 empty)) | inr e ↦ e ]

    after_front : (front more : List ℕ) → StartsPath (front ++ 47 ∷ []) → StartsPath ((front ++ 47 ∷ []) ++ more)
    after_front [] more k = or_true (eqb (length (47 ∷ more)) 0)
    after_front (c ∷ front) more k = rw (first_is c (front ++ 47 ∷ []) k) (or_true (eqb (length (c ∷ ((front ++ 47 ∷ []) ++ more))) 0))

    front_starts : (front rest : List ℕ) → StartsPath (front ++ 47 ∷ rest) → StartsPath (front ++ 47 ∷ [])
    front_starts [] rest k = or_true (eqb (length {A = ℕ} (47 ∷ [])) 0)
    front_starts (c ∷ front) rest k = rw (first_is c (front ++ 47 ∷ rest) k) (or_true (eqb (length (c ∷ (front ++ 47 ∷ []))) 0))

    by_slash : (text : List ℕ) → StartsPath text → eqb (length text) 0 ≡ false → HasNoSlash text ⊎ AtLastSlash text → StartsPath (through_last_slash text ++ more)
    by_slash [] k some at = absurd (false≢true (sym some))
    by_slash (c ∷ t) k some (inl none) = absurd (false≢true (sym (ap not (first_is c t k)) ∙ (and_parts (not (eqb c 47)) (list_all (λ x. not (eqb x 47)) t) none).0))
    by_slash (c ∷ t) k some (inr at) =
        subst (λ (p : List ℕ). StartsPath (p ++ more)) (sym (through_is (c ∷ t) at)) (after_front at.front more (front_starts at.front at.rest (subst StartsPath at.shape k)))
