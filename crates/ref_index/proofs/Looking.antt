-- The last entry that a table has is that of the last place in the definition's list.
use Rattle.std.proofs.Common.{◌≡◌, ℕ, zero, suc, arith, Ok, Bool, true, false, ◌&&◌, cond, List, [], ◌∷◌, map, filter, Option, Some, None, option_map, option_copied, MatchOption, IfSome, Bor, length, refl, sym, ap, ◌∙◌, subst, bytes_eq}
use Rattle.std.specs.Prelude.{slice_get}
use Rattle.std.specs.Slice.{IsItemAt}
use Rattle.std.proofs.lemmas.Option.{slice_get_past, slice_get_read}
use Rattle.std.specs.List.{AllZip, Contains, last_or}
use Rattle.std.proofs.Math.Bool.{and-true}
use Rattle.std.proofs.lemmas.Slice.Eq.{bytes_eq-Decides}
use Rattle.ref_uri.specs.Targets.{uri_against}
use Rattle.ref_paths.specs.Path.{Part}
use Rattle.ref_parts.specs.Table as table
use Rattle.ref_parts.specs.Table.{is_under, last_value}
use Rattle.ref_definitions.specs.World.{Layer}
use Rattle.ref_definitions.specs.Places.{Place}
use Rattle.ref_definitions.specs.Resources.{last_under, resources}
use Rattle.ref_definitions.specs.Anchors.{Named, last_named, names}
use Rattle.ref_definitions.specs.Cached.{Pair}
use Rattle.ref_index.specs.declared.entry.Entry.{Entry}
use Rattle.ref_index.specs.declared.entry.NamedEntry.{NamedEntry}
use Rattle.ref_index.specs.declared.found.ResolvedUri.{ResolvedUri}
use Rattle.ref_index.specs.Spots.{Spot, numbered_resources, numbered_names, last_resource, last_name, spot_under, spot_of}
use Rattle.ref_index.specs.Entries.{IsEntryOf, kind_of, IsFoundWhere}
use Rattle.ref_index.specs.inner.Found.{IsNumberOf, IsResourceOf, IsNameOf}
use Rattle.ref_index.proofs.Spots.{last_resource_is, last_name_is}
use Rattle.ref_index.specs.inner.Index.{IsPairIn}

-- ---- lists of the same places

pub zip_mapped : {A B C : Type 0} (R : A → C → Type 0) (S : B → C → Type 0) (f : A → B) → ((a : A) (c : C) → R a c → S (f a) c) → (xs : List A) (cs : List C) → AllZip R xs cs → AllZip S (map f xs) cs
zip_mapped R S f each [] [] all = tt
zip_mapped R S f each [] (c ∷ cs) all = absurd all
zip_mapped R S f each (a ∷ xs) [] all = absurd all
zip_mapped R S f each (a ∷ xs) (c ∷ cs) all = (each a c all.0, zip_mapped R S f each xs cs all.1)

filtered_step : {A B : Type 0} (R : A → B → Type 0) (a : A) (b : B) (xs : List A) (bs : List B) (here there : Bool) → here ≡ there → R a b → AllZip R xs bs → AllZip R (cond here (a ∷ xs) xs) (cond there (b ∷ bs) bs)
filtered_step R a b xs bs true true same at rest = (at, rest)
filtered_step R a b xs bs true false same at rest = cc
filtered_step R a b xs bs false true same at rest = cc
filtered_step R a b xs bs false false same at rest = rest

filtered : {A B : Type 0} (R : A → B → Type 0) (p : A → Bool) (q : B → Bool) → ((a : A) (b : B) → R a b → p a ≡ q b) → (xs : List A) (bs : List B) → AllZip R xs bs → AllZip R (filter p xs) (filter q bs)
filtered R p q same [] [] all = tt
filtered R p q same [] (b ∷ bs) all = absurd all
filtered R p q same (a ∷ xs) [] all = absurd all
filtered R p q same (a ∷ xs) (b ∷ bs) all =
    filtered_step R a b (filter p xs) (filter q bs) (p a) (q b) (same a b all.0) all.0 (filtered R p q same xs bs all.1)

-- both are there, and related, or neither is
abbrev pub Both : {A B : Type 0} → (A → B → Type 0) → Option A → Option B → Type 0
Both R None None = Unit {0}
Both R None (Some b) = ⊥
Both R (Some a) None = ⊥
Both R (Some a) (Some b) = R a b

last_both : {A B : Type 0} (R : A → B → Type 0) (xs : List A) (bs : List B) (o : Option A) (u : Option B) → AllZip R xs bs → Both R o u → Both R (last_or o xs) (last_or u bs)
last_both R [] [] o u all both = both
last_both R [] (b ∷ bs) o u all both = absurd all
last_both R (a ∷ xs) [] o u all both = absurd all
last_both R (a ∷ xs) (b ∷ bs) o u all both = last_both R xs bs (Some a) (Some b) all.1 all.0

-- ---- in a table

uri_test : (layer : Layer) (entries : List Entry) (uri : List ℕ) (e : table.Entry ℕ) (r : ℕ × (List ℕ × Place)) → IsResourceOf layer entries e r → is_under uri [] e ≡ bytes_eq r.1.0 uri
uri_test layer entries uri e r (first, second, is) =
    ap (λ k. bytes_eq k uri && bytes_eq e.1 []) first ∙ ap (λ k. bytes_eq r.1.0 uri && bytes_eq k []) second ∙ and-true (bytes_eq r.1.0 uri)

name_test : (layer : Layer) (entries : List Entry) (uri name : List ℕ) (e : table.Entry NamedEntry) (n : ℕ × Named) → IsNameOf layer entries e n → is_under uri name e ≡ (bytes_eq n.1.uri uri && bytes_eq n.1.name name)
name_test layer entries uri name e n (first, second, kind, is) =
    ap (λ k. bytes_eq k uri && bytes_eq e.1 name) first ∙ ap (λ k. bytes_eq n.1.uri uri && bytes_eq k name) second

pub uri_both : (layer : Layer) (entries : List Entry) (uri : List ℕ) (es : List (table.Entry ℕ)) (rs : List (ℕ × (List ℕ × Place))) → AllZip (IsResourceOf layer entries) es rs
    → Both (IsResourceOf layer entries) (last_or None (filter (is_under uri []) es)) (last_or None (filter (λ (r : ℕ × (List ℕ × Place)). bytes_eq r.1.0 uri) rs))
uri_both layer entries uri es rs all =
    last_both (IsResourceOf layer entries) (filter (is_under uri []) es) (filter (λ r. bytes_eq r.1.0 uri) rs) None None
    (filtered (IsResourceOf layer entries) (is_under uri []) (λ r. bytes_eq r.1.0 uri) (uri_test layer entries uri) es rs all) tt

pub name_both : (layer : Layer) (entries : List Entry) (uri name : List ℕ) (es : List (table.Entry NamedEntry)) (ns : List (ℕ × Named)) → AllZip (IsNameOf layer entries) es ns
    → Both (IsNameOf layer entries) (last_or None (filter (is_under uri name) es)) (last_or None (filter (λ (n : ℕ × Named). bytes_eq n.1.uri uri && bytes_eq n.1.name name) ns))
name_both layer entries uri name es ns all =
    last_both (IsNameOf layer entries) (filter (is_under uri name) es) (filter (λ n. bytes_eq n.1.uri uri && bytes_eq n.1.name name) ns) None None
    (filtered (IsNameOf layer entries) (is_under uri name) (λ n. bytes_eq n.1.uri uri && bytes_eq n.1.name name) (name_test layer entries uri name) es ns all) tt

pair_test : (by_uri : List (table.Entry ℕ)) (base text : List ℕ) (e : table.Entry ResolvedUri) (p : Pair) → IsPairIn by_uri e p → is_under base text e ≡ (bytes_eq p.0 base && bytes_eq p.1 text)
pair_test by_uri base text e p (first, second, is, number) =
    ap (λ k. bytes_eq k base && bytes_eq e.1 text) first ∙ ap (λ k. bytes_eq p.0 base && bytes_eq k text) second

-- the last pair of these texts
abbrev pub last_pair : List ℕ → List ℕ → List Pair → Option Pair
last_pair base text ps = last_or None (filter (λ p. bytes_eq p.0 base && bytes_eq p.1 text) ps)

pub pair_both : (by_uri : List (table.Entry ℕ)) (base text : List ℕ) (es : List (table.Entry ResolvedUri)) (ps : List Pair) → AllZip (IsPairIn by_uri) es ps
    → Both (IsPairIn by_uri) (last_or None (filter (is_under base text) es)) (last_pair base text ps)
pair_both by_uri base text es ps all =
    last_both (IsPairIn by_uri) (filter (is_under base text) es) (filter (λ p. bytes_eq p.0 base && bytes_eq p.1 text) ps) None None
    (filtered (IsPairIn by_uri) (is_under base text) (λ p. bytes_eq p.0 base && bytes_eq p.1 text) (pair_test by_uri base text) es ps all) tt

last_of_some : {A : Type 0} (a : A) (xs : List A) → ¬ (last_or None (a ∷ xs) ≡ None)
last_of_some a [] none = cc
last_of_some a (x ∷ xs) none = last_of_some x xs none

none_in_rest : {A : Type 0} (b : Bool) (x : A) (xs : List A) → last_or None (cond b (x ∷ xs) xs) ≡ None → last_or None xs ≡ None
none_in_rest true x xs none = absurd (last_of_some x xs none)
none_in_rest false x xs none = none

none_here : {A : Type 0} (b : Bool) (x : A) (xs : List A) → b ≡ true → ¬ (last_or None (cond b (x ∷ xs) xs) ≡ None)
none_here true x xs same none = last_of_some x xs none
none_here false x xs same none = cc

-- where none was found, none is there
pub not_there : {A : Type 0} (test : A → Bool) (xs : List A) (x : A) → test x ≡ true → last_or None (filter test xs) ≡ None → ¬ (Contains xs x)
not_there test [] x holds none (i, within, is) = absurd (omega arith)
not_there test (y ∷ xs) x holds none (zero, within, is) = none_here (test y) y (filter test xs) (ap test is ∙ holds) none
not_there test (y ∷ xs) x holds none (suc i, within, is) = not_there test xs x holds (none_in_rest (test y) y (filter test xs) none) (i, omega arith, is)

-- what was found passes the test
pub last_passes : {A : Type 0} (test : A → Bool) (xs : List A) (o : Option A) → ((x : A) → o ≡ Some x → test x ≡ true) → (a : A) → last_or o (filter test xs) ≡ Some a → test a ≡ true
last_passes test [] o all a is = all a is
last_passes test (x ∷ xs) o all a is =
    by_test test x (filter test xs) o a (test x) refl (λ passes. last_passes test xs (Some x) passes a) (last_passes test xs o all a) is
  where
    by_test : {A : Type 0} (test : A → Bool) (x : A) (xs : List A) (o : Option A) (a : A) (b : Bool) → test x ≡ b → (((y : A) → Some x ≡ Some y → test y ≡ true) → last_or (Some x) xs ≡ Some a → test a ≡ true)
        → (last_or o xs ≡ Some a → test a ≡ true) → last_or o (cond b (x ∷ xs) xs) ≡ Some a → test a ≡ true
    by_test test x xs o a true passed after rest found = after (λ y same. (let e : x ≡ y = cc in subst (λ z. test z ≡ true) e passed)) found
    by_test test x xs o a false passed after rest found = rest found

same_texts : (base text : List ℕ) (p : Pair) → (bytes_eq p.0 base && bytes_eq p.1 text) ≡ true → (p.0 ≡ base) × (p.1 ≡ text)
same_texts base text p both = by_parts (bytes_eq p.0 base) (bytes_eq p.1 text) refl refl both
  where
    by_parts : (x y : Bool) → bytes_eq p.0 base ≡ x → bytes_eq p.1 text ≡ y → (x && y) ≡ true → (p.0 ≡ base) × (p.1 ≡ text)
    by_parts true true first second is = ((bytes_eq-Decides p.0 base).0 first, (bytes_eq-Decides p.1 text).0 second)
    by_parts true false first second is = cc
    by_parts false y first second is = cc

itself : (base text : List ℕ) → (bytes_eq base base && bytes_eq text text) ≡ true
itself base text = ap (λ b. b && bytes_eq text text) ((bytes_eq-Decides base base).1 refl) ∙ (bytes_eq-Decides text text).1 refl

-- ---- what was found

pub none_is_some : {A : Type 0} (a : A) → ¬ (None ≡ Some a)
none_is_some a is = cc

some_is : {A : Type 0} (a b : A) → Some a ≡ Some b → a ≡ b
some_is a b is = cc

none_found : {A B V : Type 0} (R : A → B → Type 0) (f : A → V) (o : Option A) (u : Option B) → Both R o u → option_map f o ≡ None → u ≡ None
none_found R f None None both is = refl
none_found R f None (Some b) both is = absurd both
none_found R f (Some a) u both is = cc

some_found : {A B V : Type 0} (R : A → B → Type 0) (f : A → V) (o : Option A) (u : Option B) (v : V) → Both R o u → option_map f o ≡ Some v → (b : B) × (u ≡ Some b) × (a : A) × (f a ≡ v) × R a b
some_found R f None u v both is = cc
some_found R f (Some a) None v both is = absurd both
some_found R f (Some a) (Some b) v both is = (b, refl, a, (cc), both)

-- a name that a table has, and one that it hasn't
pub name_found : (layer : Layer) (entries : List Entry) (uri name : List ℕ) (by_name : List (table.Entry NamedEntry)) (v : NamedEntry) → AllZip (IsNameOf layer entries) by_name (numbered_names layer) → last_value uri name by_name ≡ Some v
    → (n : ℕ × Named) × (last_name uri name layer ≡ Some n) × (kind_of v.is_dynamic ≡ n.1.kind) × IsNumberOf layer entries n.0 v.entry n.1.place
name_found layer entries uri name by_name v all is =
    let (n, found, a, same, at) = some_found (IsNameOf layer entries) (λ e. e.2) (last_or None (filter (is_under uri name) by_name)) (last_name uri name layer) v (name_both layer entries uri name by_name (numbered_names layer) all) is in
    (n, found, subst (λ v. kind_of v.is_dynamic ≡ n.1.kind) same at.2, subst (λ v. IsNumberOf layer entries n.0 v.entry n.1.place) same at.3)

pub name_absent : (layer : Layer) (entries : List Entry) (uri name : List ℕ) (by_name : List (table.Entry NamedEntry)) → AllZip (IsNameOf layer entries) by_name (numbered_names layer) → last_value uri name by_name ≡ None → last_named uri name (names layer) ≡ None
name_absent layer entries uri name by_name all none =
    last_name_is uri name layer
    ∙ ap (option_map (λ (n : ℕ × Named). n.1)) (none_found (IsNameOf layer entries) (λ e. e.2) (last_or None (filter (is_under uri name) by_name)) (last_name uri name layer) (name_both layer entries uri name by_name (numbered_names layer) all) none)

pub describes : (layer : Layer) (entries : List Entry) (number n : ℕ) (p : Place) (e : Entry) → IsNumberOf layer entries number n p → slice_get entries n ≡ Some e → IsEntryOf layer e p × (e.document ≡ number)
describes layer entries number n p e is at =
    let same : is.0 ≡ e = some_is is.0 e (sym is.1 ∙ at) in
    subst (λ x. IsEntryOf layer x p × (x.document ≡ number)) same (is.2, is.3)

-- and so it says where the place is
abbrev spot : ℕ → List Part → Option Spot
spot number path = Some (record { document = number; path = path })

pub is_there_at : (layer : Layer) (number : ℕ) (p : Place) (e : Entry) → IsEntryOf layer e p → e.document ≡ number → spot number p.path ≡ Some (spot_of e)
is_there_at layer number p e is same = ap (λ n. spot n p.path) (sym same) ∙ ap (spot e.document) (sym is.path.path)

-- an element that is lent
pub got : {A : Type 0} (xs : List A) (i : ℕ) (r : Option (Bor A)) → IsItemAt xs i r → option_copied r ≡ slice_get xs i
got xs i None (is, lent, within, past, more) = sym (slice_get_past xs i past)
got xs i (Some b) (is, lent, within, there, more) = sym (slice_get_read xs (length xs) i b.now refl there.0 lent)

-- the entry with a number is there
entry_there : (layer : Layer) (entries : List Entry) (number n : ℕ) (p : Place) (result : Option (Bor Entry)) → IsNumberOf layer entries number n p → option_copied result ≡ slice_get entries n
    → (b : Bor Entry) × (result ≡ Some b) × IsEntryOf layer b.now p × (b.now.document ≡ number)
entry_there layer entries number n p None is same = absurd (none_is_some is.0 (same ∙ is.1))
entry_there layer entries number n p (Some b) is same = let at = describes layer entries number n p b.now is (sym same) in (b, refl, at.0, at.1)

-- an entry is that of the last resource under a URI, and says where this is, or there is neither
abbrev pub IsResourceFound : Layer → List ℕ → Option (Bor Entry) → Type 0
IsResourceFound layer uri result =
    IsFoundWhere layer result (last_under uri (resources layer)) × IfSome result (λ e. spot_under uri layer ≡ Some (spot_of e.now))

abbrev spot_at : ℕ × (List ℕ × Place) → Spot
spot_at r = record { document = r.0; path = r.1.1.path }

by_number : (layer : Layer) (entries : List Entry) (uri : List ℕ) (o : Option (table.Entry ℕ)) (u : Option (ℕ × (List ℕ × Place))) (result : Option (Bor Entry)) → last_resource uri layer ≡ u → Both (IsResourceOf layer entries) o u
    → MatchOption (option_map (λ e. e.2) o) (result ≡ None) (λ n. option_copied result ≡ slice_get entries n) → IsResourceFound layer uri result
by_number layer entries uri None None result last both none =
    let found : last_under uri (resources layer) ≡ None = last_resource_is uri layer ∙ ap (option_map (λ (r : ℕ × (List ℕ × Place)). r.1)) last in
    subst (IsResourceFound layer uri) (sym none) (found, tt)
by_number layer entries uri None (Some r) result last both same = absurd both
by_number layer entries uri (Some e) None result last both same = absurd both
by_number layer entries uri (Some e) (Some r) result last both same =
    let found : last_under uri (resources layer) ≡ Some r.1 = last_resource_is uri layer ∙ ap (option_map (λ (x : ℕ × (List ℕ × Place)). x.1)) last in
    let (b, is, described, number) = entry_there layer entries r.0 e.2 r.1.1 result both.2 same in
    subst (IsResourceFound layer uri) (sym is) ((r.1, found, described), ap (option_map spot_at) last ∙ is_there_at layer r.0 r.1.1 b.now described number)

-- the entry with the number that a table has for a URI, where it has one
pub resource_found : (layer : Layer) (entries : List Entry) (uri : List ℕ) (by_uri : List (table.Entry ℕ)) (number : Option ℕ) (result : Option (Bor Entry)) → AllZip (IsResourceOf layer entries) by_uri (numbered_resources layer)
    → number ≡ last_value uri [] by_uri → MatchOption number (result ≡ None) (λ n. option_copied result ≡ slice_get entries n) → IsResourceFound layer uri result
resource_found layer entries uri by_uri number result all is same =
    by_number layer entries uri (last_or None (filter (is_under uri []) by_uri)) (last_resource uri layer) result refl (uri_both layer entries uri by_uri (numbered_resources layer) all)
    (subst (λ o. MatchOption o (result ≡ None) (λ n. option_copied result ≡ slice_get entries n)) is same)

-- a pair that none was found of is none of the list
pub pair_absent : (by_uri : List (table.Entry ℕ)) (base text : List ℕ) (by_pair : List (table.Entry ResolvedUri)) (ps : List Pair) → AllZip (IsPairIn by_uri) by_pair ps → last_value base text by_pair ≡ None → ¬ (Contains ps (base, text))
pair_absent by_uri base text by_pair ps all none =
    not_there (λ p. bytes_eq p.0 base && bytes_eq p.1 text) ps (base, text) (itself base text)
    (none_found (IsPairIn by_uri) (λ e. e.2) (last_or None (filter (is_under base text) by_pair)) (last_pair base text ps) (pair_both by_uri base text by_pair ps all) none)

-- what was found of a pair is the URI that it means, with its number
pub pair_found : (by_uri : List (table.Entry ℕ)) (base text : List ℕ) (by_pair : List (table.Entry ResolvedUri)) (ps : List Pair) (v : ResolvedUri) → AllZip (IsPairIn by_uri) by_pair ps → last_value base text by_pair ≡ Some v
    → (uri_against base text ≡ Ok v.uri.value) × (v.entry ≡ last_value v.uri.value [] by_uri)
pair_found by_uri base text by_pair ps v all is =
    let (p, found, e, same, at) = some_found (IsPairIn by_uri) (λ e. e.2) (last_or None (filter (is_under base text) by_pair)) (last_pair base text ps) v (pair_both by_uri base text by_pair ps all) is in
    let texts = same_texts base text p (last_passes (λ q. bytes_eq q.0 base && bytes_eq q.1 text) ps None (λ x none. cc) p found) in (
      subst (λ b. uri_against b text ≡ Ok v.uri.value) texts.0 (subst (λ t. uri_against p.0 t ≡ Ok v.uri.value) texts.1 (subst (λ w. uri_against p.0 p.1 ≡ Ok w.uri.value) same at.2)),
      subst (λ w. w.entry ≡ last_value w.uri.value [] by_uri) same at.3,
    )
