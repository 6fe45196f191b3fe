-- The columns of a row share no keyword, and before 2020-12 none has `items` or `dependencies`.
use Rattle.std.proofs.Common.{◌≡◌, ℕ, List, [], ◌∷◌, Bool, true, false, ◌&&◌, ◌||◌, not, codes, cond, ⊎_elim, refl, sym, ap, ◌∙◌, true≢false}
use Rattle.std.specs.Str.{bytes_eq}
use Rattle.std.proofs.lemmas.Bool.{and_parts, not-true, or_cases}
use Rattle.std.proofs.lemmas.Slice.Eq.{bytes_eq-Decides}
use Rattle.ref_draft.specs.declared.draft.Draft.{Draft}
use Rattle.ref_draft.specs.declared.draft.Draft.TheVariants.{Draft4, Draft6, Draft7, Draft201909, Draft202012, Unknown}
use Rattle.ref_draft.specs.declared.spec.Holding.{Holding}
use Rattle.ref_draft.specs.declared.spec.Holding.TheVariants.{Whole, WholeObject, Elements, Members as EachMember, ElementsOrWhole, ObjectMembers, Nothing}
use Rattle.ref_draft.specs.Keywords.{row, is_one_of, is_before_2020, is_items_or_dependencies, boolean_or_schema, holding_of}
use Rattle.ref_draft.specs.Scan.{is_value_keyword, is_child_keyword}

-- whether no keyword of the first list is in the second
abbrev are_apart : List (List ℕ) → List (List ℕ) → Bool
are_apart [] others = true
are_apart (k ∷ ks) others = not (is_one_of k others) && are_apart ks others

pub same : (k l : List ℕ) → bytes_eq k l ≡ true → k ≡ l
same k l = (bytes_eq-Decides k l).0

apart : (k : List ℕ) (ks others : List (List ℕ)) → are_apart ks others ≡ true → is_one_of k ks ≡ true → is_one_of k others ≡ false
apart k [] others test among = absurd (true≢false (sym among))
apart k (l ∷ ks) others test among =
    let parts = and_parts (not (is_one_of l others)) (are_apart ks others) test in
    ⊎_elim (λ here. ap (λ w. is_one_of w others) (same k l here) ∙ not-true (is_one_of l others) parts.0)
    (λ later. apart k ks others parts.1 later)
    (or_cases (bytes_eq k l) (is_one_of k ks) among)

columns_apart : (d : Draft) → (are_apart (row d).arrays (row d).values && are_apart (row d).maps (row d).values) ≡ true
columns_apart Draft4 = refl
columns_apart Draft6 = refl
columns_apart Draft7 = refl
columns_apart Draft201909 = refl
columns_apart Draft202012 = refl
columns_apart Unknown = refl

-- a child keyword is no value keyword
pub child_is_no_value : (d : Draft) (k : List ℕ) → is_child_keyword d k ≡ true → is_value_keyword d k ≡ false
child_is_no_value d k child =
    let tests = and_parts (are_apart (row d).arrays (row d).values) (are_apart (row d).maps (row d).values) (columns_apart d) in
    ⊎_elim (λ array. apart k (row d).arrays (row d).values tests.0 array)
    (λ map. apart k (row d).maps (row d).values tests.1 map)
    (or_cases (is_one_of k (row d).arrays) (is_one_of k (row d).maps) child)

maps_apart : (d : Draft) → (are_apart (row d).maps (boolean_or_schema d) && (are_apart (row d).maps (row d).values && are_apart (row d).maps (row d).arrays)) ≡ true
maps_apart Draft4 = refl
maps_apart Draft6 = refl
maps_apart Draft7 = refl
maps_apart Draft201909 = refl
maps_apart Draft202012 = refl
maps_apart Unknown = refl

past : (a b c m : Bool) (others : Holding) → a ≡ false → b ≡ false → c ≡ false → m ≡ true → cond a WholeObject (cond b Whole (cond c Elements (cond m EachMember others))) ≡ EachMember
past true b c m others p q r is = absurd (true≢false p)
past false true c m others p q r is = absurd (true≢false q)
past false false true m others p q r is = absurd (true≢false r)
past false false false true others p q r is = refl
past false false false false others p q r is = absurd (true≢false (sym is))

-- a keyword whose object has schemas as members holds them in no other way
pub members_first : (d : Draft) (k : List ℕ) → is_one_of k (row d).maps ≡ true → holding_of d k ≡ EachMember
members_first d k is =
    let (booleans, rest) = and_parts (are_apart (row d).maps (boolean_or_schema d)) (are_apart (row d).maps (row d).values && are_apart (row d).maps (row d).arrays) (maps_apart d) in
    let (values, arrays) = and_parts (are_apart (row d).maps (row d).values) (are_apart (row d).maps (row d).arrays) rest in
    past (is_one_of k (boolean_or_schema d)) (is_one_of k (row d).values) (is_one_of k (row d).arrays) (is_one_of k (row d).maps)
    (cond (is_before_2020 d && bytes_eq k (codes "items")) ElementsOrWhole (cond (is_before_2020 d && bytes_eq k (codes "dependencies")) ObjectMembers Nothing))
    (apart k (row d).maps (boolean_or_schema d) booleans is) (apart k (row d).maps (row d).values values is) (apart k (row d).maps (row d).arrays arrays is) is

-- the two keywords that hold schemas in more than one way
abbrev both : List (List ℕ)
both = codes "items" ∷ codes "dependencies" ∷ []

both_apart : (d : Draft) → is_before_2020 d ≡ true → (are_apart both (row d).values && (are_apart both (row d).arrays && are_apart both (row d).maps)) ≡ true
both_apart Draft4 before = refl
both_apart Draft6 before = refl
both_apart Draft7 before = refl
both_apart Draft201909 before = refl
both_apart Draft202012 before = absurd (true≢false (sym before))
both_apart Unknown before = absurd (true≢false (sym before))

neither : (a b : Bool) → a ≡ false → b ≡ false → (a || b) ≡ false
neither true b e f = e
neither false b e f = f

-- before 2020-12 `items` and `dependencies` are neither value keywords nor child keywords
pub items_is_no_value : (d : Draft) (k : List ℕ) → is_before_2020 d ≡ true → is_items_or_dependencies k ≡ true → is_value_keyword d k ≡ false
items_is_no_value d k before items =
    apart k both (row d).values (and_parts (are_apart both (row d).values) (are_apart both (row d).arrays && are_apart both (row d).maps) (both_apart d before)).0 items

pub items_is_no_child : (d : Draft) (k : List ℕ) → is_before_2020 d ≡ true → is_items_or_dependencies k ≡ true → is_child_keyword d k ≡ false
items_is_no_child d k before items =
    let columns = (and_parts (are_apart both (row d).values) (are_apart both (row d).arrays && are_apart both (row d).maps) (both_apart d before)).1 in
    let tests = and_parts (are_apart both (row d).arrays) (are_apart both (row d).maps) columns in
    neither (is_one_of k (row d).arrays) (is_one_of k (row d).maps) (apart k both (row d).arrays tests.0 items) (apart k both (row d).maps tests.1 items)
