-- References are kept under every dynamic scope where nothing differs.
use Rattle.std.proofs.Common.{◌≡◌, ℕ, Bool, true, false, ◌&&◌, ◌||◌, cond, List, [], ◌∷◌, ◌++◌, map, flat_map, codes, is_some, true≢false, Option, Some, None, option_map, bytes_eq, ⊎_elim, refl, sym, ap, subst, ◌∙◌, arith}
use Rattle.std.specs.List.{list_any, AllByRecursion, Contains}
use Rattle.std.specs.Option.{option_map_or}
use Rattle.std.proofs.lemmas.Bool.{and_parts}
use Rattle.std.proofs.lemmas.Slice.Eq.{bytes_eq-Decides}
use Rattle.ref_draft.specs.Schema.{text_under}
use Rattle.ref_draft.specs.Anchors.{anchors}
use Rattle.ref_definitions.specs.Recursive.{is_marked}
use Rattle.ref_definitions.specs.World.{World}
use Rattle.ref_definitions.specs.Places.{Place}
use Rattle.ref_definitions.specs.Resources.{meant_place}
use Rattle.ref_definitions.specs.Fault.{not_retrieved}
use Rattle.ref_definitions.proofs.Lists.{first_or_later, each_in, in_joined}
use Rattle.ref_index.specs.Spots.{Spot}
use Rattle.ref_resolver.proofs.Lookups.{lookup_absent}
use Rattle.ref_changes.specs.Moves.{Moves, is_moved_if}
use Rattle.ref_changes.specs.Answers.{Answer, Leads, Fails, Change, Texts, answer, answer_from, location, resource_at, is_kept, is_base_kept, is_draft, is_same_bool, is_name_kept, has_dynamic, dynamic_name, named, fault_name}
use Rattle.ref_changes.specs.Sites.{Site, sites, site_after}
use Rattle.ref_changes.specs.Changes.{What, Difference, OtherText, OtherDraft, OtherMark, OtherAnchors, OtherBase, OtherReference, OtherName, unless, differs, leading, is_dynamic_kept, is_reference_kept, reference_by, texts_by, keyword_whats, reference_keywords, are_anchors_kept, whats_at, differences_with, site_differences, names_of, names_by, keyword_names, names_at, site_names, is_texts, with_texts, with_each, all_names, name_by, name_whats, name_differences, differences_of, differences}
use Rattle.ref_changes.specs.Kept.{IsMoved}
use Rattle.ref_changes.proofs.Answering.{from, fails}
use Rattle.ref_changes.proofs.Scoped.{name_answer, is_fault, is_unfit, picks, last_pick, choose, IsMeant, ByScope, same, chosen, by_scope_of}

-- ---- lists without elements

front_none : {X : Type 0} (xs ys : List X) → xs ++ ys ≡ [] → xs ≡ []
front_none [] ys is = refl
front_none (x ∷ xs) ys is = cc

back_none : {X : Type 0} (xs ys : List X) → xs ++ ys ≡ [] → ys ≡ []
back_none [] ys is = is
back_none (x ∷ xs) ys is = cc

each_none : {X Y : Type 0} (f : X → List Y) (xs : List X) → flat_map f xs ≡ [] → AllByRecursion (λ x. f x ≡ []) xs
each_none f [] is = tt
each_none f (x ∷ xs) is = (front_none (f x) (flat_map f xs) is, each_none f xs (back_none (f x) (flat_map f xs) is))

none_at : {X Y : Type 0} (f : X → List Y) (xs : List X) (x : X) → flat_map f xs ≡ [] → Contains xs x → f x ≡ []
none_at f xs x is there = each_in (λ y. f y ≡ []) xs x (each_none f xs is) there

mapped_none : {X Y : Type 0} (f : X → Y) (xs : List X) → map f xs ≡ [] → xs ≡ []
mapped_none f [] is = refl
mapped_none f (x ∷ xs) is = cc

held : (b : Bool) (w : What) → unless b w ≡ [] → b ≡ true
held true w is = refl
held false w is = cc

-- ---- pairs of answers

fault_alike : (c : Change) (a b : Answer) (fault : List ℕ) → is_kept c a b ≡ true → is_fault fault a ≡ is_fault fault b
fault_alike c (Leads a) (Leads b) fault kept = refl
fault_alike c (Leads a) (Fails g) fault kept = cc
fault_alike c (Fails f) (Leads b) fault kept = cc
fault_alike c (Fails f) (Fails g) fault kept = ap (λ x. bytes_eq x fault) ((bytes_eq-Decides f g).0 kept)

same_bool : (a b : Bool) → is_same_bool a b ≡ true → a ≡ b
same_bool true true is = refl
same_bool true false is = cc
same_bool false true is = cc
same_bool false false is = refl

abbrev IsNameKept : Change → Texts → Answer → Answer → Type 0
IsNameKept c n a b = is_name_kept c n a b ≡ true

name_parts : (c : Change) (n : Texts) (a b : Answer) → IsNameKept c n a b → (is_kept c a b ≡ true) × (has_dynamic n.text a ≡ has_dynamic n.now b)
name_parts c n a b kept =
    let both = and_parts (is_kept c a b) (is_same_bool (has_dynamic n.text a) (has_dynamic n.now b)) kept in
    (both.0, same_bool (has_dynamic n.text a) (has_dynamic n.now b) both.1)

picks_alike : (c : Change) (n : Texts) (a b : Answer) → IsNameKept c n a b → picks n.text a ≡ picks n.now b
picks_alike c n a b kept =
    let both = name_parts c n a b kept in
    ap (λ x. x || is_fault (codes "InvalidUri") a) both.1 ∙ ap (λ x. has_dynamic n.now b || x) (fault_alike c a b (codes "InvalidUri") both.0)

cond_alike : (c : Change) (x y : Bool) (a b first last : Answer) → x ≡ y → is_kept c a b ≡ true → is_kept c first last ≡ true → is_kept c (cond x a first) (cond y b last) ≡ true
cond_alike c true true a b first last is here there = here
cond_alike c false false a b first last is here there = there
cond_alike c true false a b first last is here there = cc
cond_alike c false true a b first last is here there = cc

last_alike : {E : Type 0} (c : Change) (n : Texts) (f g : E → Answer) (es : List E) (first last : Answer) → is_kept c first last ≡ true → AllByRecursion (λ e. IsNameKept c n (f e) (g e)) es
    → is_kept c (last_pick n.text first (map f es)) (last_pick n.now last (map g es)) ≡ true
last_alike c n f g [] first last kept all = kept
last_alike c n f g (e ∷ es) first last kept all =
    last_alike c n f g es (cond (picks n.text (f e)) (f e) first) (cond (picks n.now (g e)) (g e) last)
    (cond_alike c (picks n.text (f e)) (picks n.now (g e)) (f e) (g e) first last (picks_alike c n (f e) (g e) all.0) (name_parts c n (f e) (g e) all.0).0 kept) all.1

unfit_alike : {E : Type 0} (c : Change) (n : Texts) (f g : E → Answer) (es : List E) → AllByRecursion (λ e. IsNameKept c n (f e) (g e)) es → list_any is_unfit (map f es) ≡ list_any is_unfit (map g es)
unfit_alike c n f g [] all = refl
unfit_alike c n f g (e ∷ es) all =
    ap (λ b. b || list_any is_unfit (map f es)) (fault_alike c (f e) (g e) (codes "InvalidAnchor") (name_parts c n (f e) (g e) all.0).0)
    ∙ ap (λ b. is_unfit (g e) || b) (unfit_alike c n f g es all.1)

choose_alike : {E : Type 0} (c : Change) (n : Texts) (f g : E → Answer) (es : List E) (first last : Answer) → is_kept c first last ≡ true → AllByRecursion (λ e. IsNameKept c n (f e) (g e)) es
    → is_kept c (choose n.text first (map f es)) (choose n.now last (map g es)) ≡ true
choose_alike c n f g es first last kept all =
    cond_alike c (list_any is_unfit (map f es)) (list_any is_unfit (map g es)) (Fails (codes "InvalidAnchor")) (Fails (codes "InvalidAnchor")) (last_pick n.text first (map f es)) (last_pick n.now last (map g es))
    (unfit_alike c n f g es all) ((bytes_eq-Decides (codes "InvalidAnchor") (codes "InvalidAnchor")).1 refl) (last_alike c n f g es first last kept all)

-- ---- bases that mean a resource

meant_by : (w : World) (base : List ℕ) (o : Option Place) → meant_place w base ≡ o → is_some (resource_at w base) ≡ true → IsMeant w base
meant_by w base (Some p) is some = (p, is)
meant_by w base None is some =
    absurd (true≢false (sym some ∙ ap (λ a. is_some (location a)) (fails w (from base []) (codes "#") (not_retrieved base) (lookup_absent w (from base []) (codes "#") base refl is))))

meant_of : (w : World) (base : List ℕ) → is_some (resource_at w base) ≡ true → IsMeant w base
meant_of w base some = meant_by w base (meant_place w base) refl some

some_after : (moves : Moves) (o p : Option (ℕ × Spot)) → is_moved_if moves o p ≡ true → is_some o ≡ true → is_some p ≡ true
some_after moves (Some a) (Some b) kept some = refl
some_after moves (Some a) None kept some = cc
some_after moves None p kept some = cc

-- ---- names that are gathered

texts_same : (a b : Texts) → is_texts a b ≡ true → a ≡ b
texts_same a b is =
    let both = and_parts (bytes_eq a.text b.text) (bytes_eq a.now b.now) is in
    ap (λ t. record { text = t; now = a.now }) ((bytes_eq-Decides a.text b.text).0 both.0) ∙ ap (λ t. record { text = b.text; now = t }) ((bytes_eq-Decides a.now b.now).0 both.1)

texts_itself : (a : Texts) → is_texts a a ≡ true
texts_itself a = ap (λ b. b && bytes_eq a.now a.now) ((bytes_eq-Decides a.text a.text).1 refl) ∙ (bytes_eq-Decides a.now a.now).1 refl

any_front : {X : Type 0} (p : X → Bool) (xs ys : List X) → list_any p xs ≡ true → list_any p (xs ++ ys) ≡ true
any_front p [] ys is = cc
any_front p (x ∷ xs) ys is = by_first (p x) is (any_front p xs ys)
  where
    by_first : (b : Bool) → (b || list_any p xs) ≡ true → (list_any p xs ≡ true → list_any p (xs ++ ys) ≡ true) → (b || list_any p (xs ++ ys)) ≡ true
    by_first true is later = refl
    by_first false is later = later is

any_last : {X : Type 0} (p : X → Bool) (xs : List X) (y : X) → p y ≡ true → list_any p (xs ++ y ∷ []) ≡ true
any_last p [] y is = ap (λ b. b || false) is
any_last p (x ∷ xs) y is = by_first (p x) (any_last p xs y is)
  where
    by_first : (b : Bool) → list_any p (xs ++ y ∷ []) ≡ true → (b || list_any p (xs ++ y ∷ [])) ≡ true
    by_first true is = refl
    by_first false is = is

still_there : (n m : Texts) (all : List Texts) → list_any (is_texts n) all ≡ true → list_any (is_texts n) (with_texts all m) ≡ true
still_there n m all is = by_test (list_any (is_texts m) all)
  where
    by_test : (b : Bool) → list_any (is_texts n) (cond b all (all ++ m ∷ [])) ≡ true
    by_test true = is
    by_test false = any_front (is_texts n) all (m ∷ []) is

now_there : (n : Texts) (all : List Texts) → list_any (is_texts n) (with_texts all n) ≡ true
now_there n all = by_test (list_any (is_texts n) all) refl
  where
    by_test : (b : Bool) → list_any (is_texts n) all ≡ b → list_any (is_texts n) (cond b all (all ++ n ∷ [])) ≡ true
    by_test true is = is
    by_test false is = any_last (is_texts n) all n (texts_itself n)

kept_there : (n : Texts) (all more : List Texts) → list_any (is_texts n) all ≡ true → list_any (is_texts n) (with_each all more) ≡ true
kept_there n all [] is = is
kept_there n all (m ∷ more) is = kept_there n (with_texts all m) more (still_there n m all is)

gathered : (n : Texts) (all more : List Texts) → Contains more n → list_any (is_texts n) (with_each all more) ≡ true
gathered n all [] there = absurd (omega (arith, there.1))
gathered n all (m ∷ more) there =
    ⊎_elim (λ same. kept_there n (with_texts all m) more (subst (λ x. list_any (is_texts n) (with_texts all x) ≡ true) (sym same) (now_there n all)))
    (λ later. gathered n (with_texts all m) more later) (first_or_later m more n there)

of_gathered : (P : Texts → Type 0) (n : Texts) (all : List Texts) → AllByRecursion P all → list_any (is_texts n) all ≡ true → P n
of_gathered P n [] holds there = cc
of_gathered P n (m ∷ all) holds there = by_test (is_texts n m) refl there (of_gathered P n all holds.1)
  where
    by_test : (b : Bool) → is_texts n m ≡ b → (b || list_any (is_texts n) all) ≡ true → (list_any (is_texts n) all ≡ true → P n) → P n
    by_test true is there later = subst P (sym (texts_same n m is)) holds.0
    by_test false is there later = later there

-- ---- what doesn't differ

-- the two parts of all differences
places_part : (c : Change) → differences c ≡ [] → flat_map (site_differences c (sites c.after)) (sites c.before) ≡ []
places_part c none =
    front_none (flat_map (site_differences c (sites c.after)) (sites c.before))
    (flat_map (λ n. flat_map (name_differences c (sites c.after) n) (sites c.before)) (all_names c (sites c.before) (sites c.after))) none

names_part : (c : Change) → differences c ≡ [] → flat_map (λ n. flat_map (name_differences c (sites c.after) n) (sites c.before)) (all_names c (sites c.before) (sites c.after)) ≡ []
names_part c none =
    back_none (flat_map (site_differences c (sites c.after)) (sites c.before))
    (flat_map (λ n. flat_map (name_differences c (sites c.after) n) (sites c.before)) (all_names c (sites c.before) (sites c.after))) none

somewhere : (c : Change) (s : Site) (o : Option Site) → differences_with c s o ≡ [] → (t : Site) × (o ≡ Some t)
somewhere c s None none = cc
somewhere c s (Some t) none = (t, refl)

pub places_stay : (c : Change) → differences c ≡ [] → (s : Site) → Contains (sites c.before) s → (t : Site) × (site_after c.moves (sites c.after) s ≡ Some t)
places_stay c none s there =
    somewhere c s (site_after c.moves (sites c.after) s) (none_at (site_differences c (sites c.after)) (sites c.before) s (places_part c none) there)

whats_none : (c : Change) → differences c ≡ [] → (s t : Site) → IsMoved c (s, t) → whats_at c s t ≡ []
whats_none c none s t moved =
    mapped_none (differs s) (whats_at c s t)
    (sym (ap (differences_with c s) moved.after) ∙ none_at (site_differences c (sites c.after)) (sites c.before) s (places_part c none) moved.before)

-- the parts of what differs at a place
abbrev draft_part : Site → Site → List What
draft_part s t = unless (is_draft s.draft t.draft) OtherDraft

abbrev base_part : Change → Site → Site → List What
base_part c s t = unless (is_base_kept c s.base t.base) OtherBase

abbrev mark_part : Site → Site → List What
mark_part s t = unless (is_same_bool (is_marked s.value) (is_marked t.value)) OtherMark

abbrev anchors_part : Change → Site → Site → List What
anchors_part c s t = unless (are_anchors_kept c s t (anchors s.draft s.value) (anchors t.draft t.value)) OtherAnchors

abbrev keywords_part : Change → Site → Site → List What
keywords_part c s t = flat_map (keyword_whats c s t) (reference_keywords s.draft)

after_draft : (c : Change) → differences c ≡ [] → (s t : Site) → IsMoved c (s, t) → base_part c s t ++ (mark_part s t ++ (anchors_part c s t ++ keywords_part c s t)) ≡ []
after_draft c none s t moved = back_none (draft_part s t) (base_part c s t ++ (mark_part s t ++ (anchors_part c s t ++ keywords_part c s t))) (whats_none c none s t moved)

base_kept : (c : Change) → differences c ≡ [] → (s t : Site) → IsMoved c (s, t) → is_base_kept c s.base t.base ≡ true
base_kept c none s t moved =
    held (is_base_kept c s.base t.base) OtherBase (front_none (base_part c s t) (mark_part s t ++ (anchors_part c s t ++ keywords_part c s t)) (after_draft c none s t moved))

keyword_none : (c : Change) → differences c ≡ [] → (s t : Site) → IsMoved c (s, t) → (keyword : List ℕ) → Contains (reference_keywords s.draft) keyword → keyword_whats c s t keyword ≡ []
keyword_none c none s t moved keyword there =
    let second = back_none (base_part c s t) (mark_part s t ++ (anchors_part c s t ++ keywords_part c s t)) (after_draft c none s t moved) in
    let third = back_none (mark_part s t) (anchors_part c s t ++ keywords_part c s t) second in
    none_at (keyword_whats c s t) (reference_keywords s.draft) keyword (back_none (anchors_part c s t) (keywords_part c s t) third) there

text_after : (c : Change) (s t : Site) (keyword text : List ℕ) (o : Option (List ℕ)) → texts_by c s t keyword (Some text) o ≡ []
    → (now : List ℕ) × (o ≡ Some now) × (is_reference_kept c (record { text = text; now = now }) (answer c.before s.base text) (answer c.after t.base now) ≡ true)
text_after c s t keyword text None none = cc
text_after c s t keyword text (Some now) none =
    let texts : Texts = record { text = text; now = now } in (
      now,
      refl,
      held (is_reference_kept c texts (answer c.before s.base text) (answer c.after t.base now)) (OtherReference keyword (leading texts (answer c.before s.base text) (answer c.after t.base now))) none,
    )

name_kept : (c : Change) → differences c ≡ [] → (n : Texts) → list_any (is_texts n) (all_names c (sites c.before) (sites c.after)) ≡ true → (s t : Site) → IsMoved c (s, t)
    → IsNameKept c n (name_answer c.before n.text s.base) (name_answer c.after n.now t.base)
name_kept c none n there s t moved =
    let all = all_names c (sites c.before) (sites c.after) in
    let of_name : flat_map (name_differences c (sites c.after) n) (sites c.before) ≡ [] =
    of_gathered (λ m. flat_map (name_differences c (sites c.after) m) (sites c.before) ≡ []) n all (each_none (λ m. flat_map (name_differences c (sites c.after) m) (sites c.before)) all (names_part c none)) there in
    let here : name_differences c (sites c.after) n s ≡ [] = none_at (name_differences c (sites c.after) n) (sites c.before) s of_name moved.before in
    let at_place : map (differs s) (name_whats c n s t) ≡ [] = sym (ap (λ o. option_map_or (λ x. map (differs s) (name_whats c n s x)) o []) moved.after) ∙ here in
    let before = name_answer c.before n.text s.base in
    let after = name_answer c.after n.now t.base in
    held (is_name_kept c n before after) (OtherName (leading (record { text = named n.text; now = named n.now }) before after)) (mapped_none (differs s) (name_whats c n s t) at_place)

-- a name that a reference leads to is among those that are gathered
name_there : (c : Change) (s t : Site) → IsMoved c (s, t) → (keyword text now name other : List ℕ) → Contains (reference_keywords s.draft) keyword → text_under keyword s.value ≡ Some text → text_under keyword t.value ≡ Some now
    → dynamic_name text (answer c.before s.base text) ≡ Some name → dynamic_name now (answer c.after t.base now) ≡ Some other
    → list_any (is_texts (record { text = name; now = other })) (all_names c (sites c.before) (sites c.after)) ≡ true
name_there c s t moved keyword text now name other there under under_now led leads =
    let n : Texts = record { text = name; now = other } in
    let one : keyword_names c s t keyword ≡ n ∷ [] =
    ap (λ o. names_by c s t o (text_under keyword t.value)) under ∙ ap (names_by c s t (Some text)) under_now
    ∙ ap (λ o. names_of o (dynamic_name now (answer c.after t.base now))) led ∙ ap (names_of (Some name)) leads in
    let at_keyword : Contains (keyword_names c s t keyword) n = subst (λ l. Contains l n) (sym one) (0, omega arith, refl) in
    let at_place : Contains (names_at c s t) n = in_joined (keyword_names c s t) (reference_keywords s.draft) keyword n there at_keyword in
    let at_site : Contains (site_names c (sites c.after) s) n = subst (λ o. Contains (option_map_or (names_at c s) o []) n) (sym moved.after) at_place in
    gathered n [] (flat_map (site_names c (sites c.after)) (sites c.before)) (in_joined (site_names c (sites c.after)) (sites c.before) s n moved.before at_site)

-- ---- scopes

mapped_twice : {X Y Z : Type 0} (f : Y → Z) (g : X → Y) (xs : List X) → map f (map g xs) ≡ map (λ x. f (g x)) xs
mapped_twice f g [] = refl
mapped_twice f g (x ∷ xs) = ap (λ l. f (g x) ∷ l) (mapped_twice f g xs)

all_before : (c : Change) (scope : List (Site × Site)) → AllByRecursion (IsMoved c) scope → AllByRecursion (IsMeant c.before) (map (λ e. e.0.base) scope)
all_before c [] all = tt
all_before c (e ∷ scope) all = (meant_of c.before e.0.base all.0.means, all_before c scope all.1)

after_meant : (c : Change) → differences c ≡ [] → (s t : Site) → IsMoved c (s, t) → IsMeant c.after t.base
after_meant c none s t moved =
    meant_of c.after t.base (some_after c.moves (resource_at c.before s.base) (resource_at c.after t.base) (base_kept c none s t moved) moved.means)

all_after : (c : Change) → differences c ≡ [] → (scope : List (Site × Site)) → AllByRecursion (IsMoved c) scope → AllByRecursion (IsMeant c.after) (map (λ e. e.1.base) scope)
all_after c none [] all = tt
all_after c none (e ∷ scope) all = (after_meant c none e.0 e.1 all.0, all_after c none scope all.1)

all_names_kept : (c : Change) → differences c ≡ [] → (n : Texts) → list_any (is_texts n) (all_names c (sites c.before) (sites c.after)) ≡ true → (scope : List (Site × Site)) → AllByRecursion (IsMoved c) scope
    → AllByRecursion (λ e. IsNameKept c n (name_answer c.before n.text e.0.base) (name_answer c.after n.now e.1.base)) scope
all_names_kept c none n there [] all = tt
all_names_kept c none n there (e ∷ scope) all = (name_kept c none n there e.0 e.1 all.0, all_names_kept c none n there scope all.1)

not_refused : (a : Answer) → ¬ (a ≡ Fails (codes "InvalidUri")) → is_fault (codes "InvalidUri") a ≡ false
not_refused (Leads led) other = refl
not_refused (Fails fault) other = by_test (bytes_eq fault (codes "InvalidUri")) refl
  where
    by_test : (b : Bool) → bytes_eq fault (codes "InvalidUri") ≡ b → bytes_eq fault (codes "InvalidUri") ≡ false
    by_test true is = absurd (other (ap Fails ((bytes_eq-Decides fault (codes "InvalidUri")).0 is)))
    by_test false is = is

-- ---- under a scope

both_none : (o p : Option (List ℕ)) → is_dynamic_kept o p ≡ true → o ≡ None → p ≡ None
both_none None None is none = refl
both_none None (Some other) is none = cc
both_none (Some name) p is none = cc

both_some : (o p : Option (List ℕ)) (name : List ℕ) → is_dynamic_kept o p ≡ true → o ≡ Some name → (other : List ℕ) × (p ≡ Some other)
both_some None p name is some = cc
both_some (Some x) None name is some = cc
both_some (Some x) (Some other) name is some = (other, refl)

kept_both : (c : Change) (a b x y : Answer) → x ≡ a → y ≡ b → is_kept c a b ≡ true → is_kept c x y ≡ true
kept_both c a b x y is there kept = ap (λ z. is_kept c z y) is ∙ ap (is_kept c a) there ∙ kept

no_name : (o : Option (List ℕ)) (name : List ℕ) (A : Type 0) → o ≡ None → o ≡ Some name → A
no_name o name A none some = absurd (let e : None ≡ Some name = sym none ∙ some in cc)

pub kept_by_scope : (c : Change) → differences c ≡ [] → (s t : Site) → IsMoved c (s, t) → (keyword text now : List ℕ) → Contains (reference_keywords s.draft) keyword → text_under keyword s.value ≡ Some text
    → text_under keyword t.value ≡ Some now → is_reference_kept c (record { text = text; now = now }) (answer c.before s.base text) (answer c.after t.base now) ≡ true
    → is_fault (codes "InvalidUri") (answer c.before s.base text) ≡ false → (scope : List (Site × Site)) → AllByRecursion (IsMoved c) scope
    → is_kept c (answer_from c.before (from s.base (map (λ e. e.0.base) scope)) text) (answer_from c.after (from t.base (map (λ e. e.1.base) scope)) now) ≡ true
kept_by_scope c none s t moved keyword text now there under under_now kept fit scope all =
    by_both
    (by_scope_of c.before s.base text bases (meant_of c.before s.base moved.means) (all_before c scope all) fit)
    (by_scope_of c.after t.base now bases_now (after_meant c none s t moved) (all_after c none scope all) (sym (fault_alike c led leads (codes "InvalidUri") both.0) ∙ fit))
  where
    bases : List (List ℕ)
    bases = map (λ e. e.0.base) scope

    bases_now : List (List ℕ)
    bases_now = map (λ e. e.1.base) scope

    led : Answer
    led = answer c.before s.base text

    leads : Answer
    leads = answer c.after t.base now

    both : (is_kept c led leads ≡ true) × (is_dynamic_kept (dynamic_name text led) (dynamic_name now leads) ≡ true)
    both = and_parts (is_kept c led leads) (is_dynamic_kept (dynamic_name text led) (dynamic_name now leads)) kept

    by_both : ByScope c.before s.base text bases → ByScope c.after t.base now bases_now
        → is_kept c (answer_from c.before (from s.base bases) text) (answer_from c.after (from t.base bases_now) now) ≡ true
    by_both (same is plain) (same is_now plain_now) = kept_both c led leads _ _ is is_now both.0
    by_both (same is plain) (chosen other some is_now) = no_name (dynamic_name now leads) other _ (both_none (dynamic_name text led) (dynamic_name now leads) both.1 plain) some
    by_both (chosen name some is) (same is_now plain_now) =
        let after = both_some (dynamic_name text led) (dynamic_name now leads) name both.1 some in no_name (dynamic_name now leads) after.0 _ plain_now after.1
    by_both (chosen name some is) (chosen other some_now is_now) =
        let n : Texts = record { text = name; now = other } in
        let gathered_name = name_there c s t moved keyword text now name other there under under_now some some_now in
        kept_both c (choose name led (map (λ e. name_answer c.before name e.0.base) scope)) (choose other leads (map (λ e. name_answer c.after other e.1.base) scope)) _ _
        (is ∙ ap (choose name led) (mapped_twice (name_answer c.before name) (λ e. e.0.base) scope))
        (is_now ∙ ap (choose other leads) (mapped_twice (name_answer c.after other) (λ e. e.1.base) scope))
        (choose_alike c n (λ e. name_answer c.before name e.0.base) (λ e. name_answer c.after other e.1.base) scope led leads both.0 (all_names_kept c none n gathered_name scope all))

pub references_are_kept : (c : Change) → differences c ≡ [] → (s t : Site) → IsMoved c (s, t) → (keyword text : List ℕ) → Contains (reference_keywords s.draft) keyword → text_under keyword s.value ≡ Some text
    → ¬ (answer c.before s.base text ≡ Fails (codes "InvalidUri")) → (scope : List (Site × Site)) → AllByRecursion (IsMoved c) scope
    → (now : List ℕ) × (text_under keyword t.value ≡ Some now)
    × (is_kept c (answer_from c.before (from s.base (map (λ e. e.0.base) scope)) text) (answer_from c.after (from t.base (map (λ e. e.1.base) scope)) now) ≡ true)
references_are_kept c none s t moved keyword text there under other scope all =
    let after : texts_by c s t keyword (Some text) (text_under keyword t.value) ≡ [] =
    sym (ap (λ o. texts_by c s t keyword o (text_under keyword t.value)) under) ∙ keyword_none c none s t moved keyword there in
    let found = text_after c s t keyword text (text_under keyword t.value) after in (
      found.0,
      found.1,
      kept_by_scope c none s t moved keyword text found.0 there under found.1 found.2 (not_refused (answer c.before s.base text) other) scope all,
    )
