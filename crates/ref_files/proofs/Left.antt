-- Which map counts, one after another; and which files are left out.
use Rattle.std.proofs.Common.{◌≡◌, ◌<◌, ◌+◌, ℕ, List, [], ◌∷◌, ◌++◌, length, take, drop, get_or, slice_index, map, sym, ap, ap₂, ◌∙◌, arith, Option, None, Some, option_map, string_bytes, Bor, Bool, true, false, not, ◌&&◌, ◌||◌, ◌==◌, refl, if◌then◌else◌, nat_lt, append_assoc, le_of_lt}
use Rattle.std.proofs.Math.ListN.{set}
use Rattle.std.proofs.Math.Seq.{get_or-append_seam, set-append_seam}
use Rattle.std.specs.Option.{option_map_or}
use Rattle.std.specs.Str.Pattern.{FindsTextPrefix, StripsPrefix}
use Rattle.std.specs.Bool.{Decides}
use Rattle.std.proofs.lemmas.Bool.{ne_eqb}
use Rattle.std.proofs.lemmas.Bool.Decides.{same_from_decides, Decides-eqb}
use Rattle.std.proofs.lemmas.List.{take_more, drop_more, map-append, length-map, length-take-le, get_or_default}
use Rattle.std.proofs.lemmas.List.Folds.{list_any-append}
use Rattle.std.proofs.lemmas.List.Sums.{fold-append}
use Rattle.ref_files.specs.Excluded.{is_below, is_excluded, leaves_out, unused, used}
use Rattle.ref_files.specs.Maps.{Below, best_of, longer}
use Rattle.ref_files.specs.Meant.{after, path_after}
use Rattle.ref_files.specs.Plain.{path_from, path_in}
use Rattle.ref_files.specs.declared.excluded.Excluded.{Excluded}
use Rattle.ref_files.specs.declared.maps.Map.{Map}
use Rattle.ref_files.proofs.After.{after_is}

-- what is seen of a map and what a URI has below its prefix
abbrev pub seen : (Bor Map × Bor (List ℕ)) → Below
seen b = record { map = b.0.now; path = b.1.now }

-- one map more
pub one_more : (uri : List ℕ) (maps : List Map) (i : ℕ) (m : Map) → i < length maps → m ≡ get_or maps i m
    → best_of uri (take (i + 1) maps) ≡ longer (best_of uri (take i maps)) m (path_after (string_bytes m.prefix) uri)
one_more uri maps i m h is =
    ap (best_of uri) (take_more maps i m h ∙ ap (λ x. take i maps ++ x ∷ []) (sym is))
    ∙ fold-append (λ (best : Option Below) (map : Map). longer best map (path_after (string_bytes map.prefix) uri)) None (take i maps) (m ∷ [])

-- what is left of a text without a beginning, as it is cut off
pub after_cut : (path own rest : List ℕ) → StripsPrefix (FindsTextPrefix own) path rest → after own path ≡ Some rest
after_cut path own rest (n, finds, is, few) = after_is own rest path (finds.1 ∙ ap (λ r. own ++ r) (sym is))

no_length : (b : ℕ) (rest : List ℕ) → (length (b ∷ rest) == 0) ≡ false
no_length b rest = ne_eqb (length (b ∷ rest)) 0 (λ e. omega (arith, e))

-- nothing is left, or a slash and more
pub none_below : (rest : List ℕ) → (length rest == 0) ≡ true → is_below (Some rest) ≡ true
none_below [] is = refl
none_below (b ∷ rest) is = let bad : false ≡ true = sym (no_length b rest) ∙ is in cc

pub more_below : (rest : List ℕ) (r : Bool) → (length rest == 0) ≡ false → Decides r (get_or rest 0 0 ≡ 47) → r ≡ is_below (Some rest)
more_below [] r is decides = cc
more_below (b ∷ rest) r is decides = same_from_decides r (b == 47) decides (Decides-eqb b 47)

-- the path of what is at a path from a folder, where that isn't the working folder and the path isn't absolute
pub path_from_folder : (folder path : List ℕ) → (length folder == 0) ≡ false → (slice_index path 0 == 47) ≡ false → path_from folder path ≡ path_in folder path
path_from_folder [] path is relative = cc
path_from_folder (b ∷ folder) path is relative = ap (λ (t : Bool). if t then path else path_in (b ∷ folder) path) relative

-- those that left out nothing, and one more
unused_append : (es fs : List Excluded) → unused (es ++ fs) ≡ unused es ++ unused fs
unused_append [] fs = refl
unused_append (e ∷ es) fs = either (not e.is_used && e.is_told) (unused_append es fs)
  where
    either : (b : Bool) → unused (es ++ fs) ≡ unused es ++ unused fs
        → (if b then string_bytes e.given ∷ unused (es ++ fs) else unused (es ++ fs)) ≡ (if b then string_bytes e.given ∷ unused es else unused es) ++ unused fs
    either true later = ap (λ l. string_bytes e.given ∷ l) later
    either false later = later

pub unused_more : (es : List Excluded) (e : Excluded) → unused (es ++ e ∷ []) ≡ unused es ++ unused (e ∷ [])
unused_more es e = unused_append es (e ∷ [])

-- what is at the index, as it was at first
pub at_left : (path : List ℕ) (xs now : List Excluded) (i : ℕ) (e : Excluded) → i < length xs → now ≡ used path (take i xs) ++ drop i xs → e ≡ get_or now i e → e ≡ get_or xs i e
at_left path xs now i e h is own =
    let us : List Excluded = used path (take i xs) in
    let x : Excluded = get_or xs i e in
    let many : length us ≡ i = length-map (take i xs) (λ (d : Excluded). record d { is_used = d.is_used || leaves_out path d.what }) ∙ length-take-le i xs (le_of_lt h) in
    let whole : now ≡ us ++ x ∷ drop (i + 1) xs = is ∙ ap (λ l. us ++ l) (drop_more xs i e h) in
    own ∙ ap₂ (λ (l : List Excluded) (k : ℕ). get_or l k e) whole (sym many) ∙ get_or-append_seam us x (drop (i + 1) xs) e

pub same_item : (path : List ℕ) (xs now : List Excluded) (i : ℕ) (m e : Excluded) → i < length xs → now ≡ used path (take i xs) ++ drop i xs → m ≡ get_or now i m → e ≡ get_or now i e → m ≡ e
same_item path xs now i m e h is own other = at_left path xs now i m h is own ∙ get_or_default xs i m e h ∙ sym (at_left path xs now i e h is other)

pub written_is : (now : List Excluded) (i : ℕ) (m e : Excluded) (t u : Bool) → m ≡ e → t ≡ u → set now i (record m { is_used = t }) ≡ set now i (record e { is_used = u })
written_is now i m e t u same is = ap₂ (λ (d : Excluded) (b : Bool). set now i (record d { is_used = b })) same is

pub kept_true : (a b : Bool) → a ≡ true → a ≡ (a || b)
kept_true true b is = refl
kept_true false b is = cc

-- one more that may leave out a path
pub used_more : (path : List ℕ) (xs now : List Excluded) (i : ℕ) (e : Excluded) (b : Bool) → i < length xs → now ≡ used path (take i xs) ++ drop i xs → e ≡ get_or now i e → b ≡ leaves_out path e.what
    → set now i (record e { is_used = e.is_used || b }) ≡ used path (take (i + 1) xs) ++ drop (i + 1) xs
used_more path xs now i e b h is own says =
    let us : List Excluded = used path (take i xs) in
    let x : Excluded = get_or xs i e in
    let many : length us ≡ i = length-map (take i xs) (λ (d : Excluded). record d { is_used = d.is_used || leaves_out path d.what }) ∙ length-take-le i xs (le_of_lt h) in
    let left : drop i xs ≡ x ∷ drop (i + 1) xs = drop_more xs i e h in
    let whole : now ≡ us ++ x ∷ drop (i + 1) xs = is ∙ ap (λ l. us ++ l) left in
    let same : e ≡ x = own ∙ ap₂ (λ (l : List Excluded) (k : ℕ). get_or l k e) whole (sym many) ∙ get_or-append_seam us x (drop (i + 1) xs) e in
    let used_x : Excluded = record x { is_used = x.is_used || leaves_out path x.what } in
    let value : (record e { is_used = e.is_used || b }) ≡ used_x =
    ap (λ (t : Bool). record e { is_used = e.is_used || t }) says ∙ ap (λ (d : Excluded). record d { is_used = d.is_used || leaves_out path d.what }) same in
    ap₂ (λ (l : List Excluded) (k : ℕ). set l k (record e { is_used = e.is_used || b })) whole (sym many)
    ∙ set-append_seam us x (drop (i + 1) xs) (record e { is_used = e.is_used || b })
    ∙ ap (λ d. us ++ d ∷ drop (i + 1) xs) value
    ∙ sym (append_assoc us (used_x ∷ []) (drop (i + 1) xs))
    ∙ ap (λ l. l ++ drop (i + 1) xs) (sym (ap (used path) (take_more xs i e h) ∙ map-append (λ (d : Excluded). record d { is_used = d.is_used || leaves_out path d.what }) (take i xs) (x ∷ [])))

pub excluded_more : (path : List ℕ) (xs now : List Excluded) (i : ℕ) (e : Excluded) (was b : Bool) → i < length xs → now ≡ used path (take i xs) ++ drop i xs → e ≡ get_or now i e → b ≡ leaves_out path e.what
    → was ≡ is_excluded path (take i xs) → (was || b) ≡ is_excluded path (take (i + 1) xs)
excluded_more path xs now i e was b h is own says before =
    let us : List Excluded = used path (take i xs) in
    let x : Excluded = get_or xs i e in
    let many : length us ≡ i = length-map (take i xs) (λ (d : Excluded). record d { is_used = d.is_used || leaves_out path d.what }) ∙ length-take-le i xs (le_of_lt h) in
    let whole : now ≡ us ++ x ∷ drop (i + 1) xs = is ∙ ap (λ l. us ++ l) (drop_more xs i e h) in
    let same : e ≡ x = own ∙ ap₂ (λ (l : List Excluded) (k : ℕ). get_or l k e) whole (sym many) ∙ get_or-append_seam us x (drop (i + 1) xs) e in
    ap₂ (λ (a c : Bool). a || c) before (says ∙ ap (λ (d : Excluded). leaves_out path d.what) same ∙ sym (or_none (leaves_out path x.what)))
    ∙ sym (list_any-append (λ (d : Excluded). leaves_out path d.what) (take i xs) (x ∷ []))
    ∙ ap (is_excluded path) (sym (take_more xs i e h))
  where
    or_none : (a : Bool) → (a || false) ≡ a
    or_none true = refl
    or_none false = refl

-- a map more that has the URI below its prefix
pub longer_is : (best : Option (Bor Map × Bor (List ℕ))) (m : Bor Map) (rest : Bor (List ℕ)) (b : Bool)
    → b ≡ option_map_or (λ x. nat_lt (length (string_bytes x.0.now.prefix)) (length (string_bytes m.now.prefix))) best true
    → longer (option_map seen best) m.now (Some rest.now) ≡ (if b then Some (seen (m, rest)) else option_map seen best)
longer_is None m rest b is = ap (λ (t : Bool). if t then Some (seen (m, rest)) else None) (sym is)
longer_is (Some x) m rest b is = ap (λ (t : Bool). if t then Some (seen (m, rest)) else Some (seen x)) (sym is)
