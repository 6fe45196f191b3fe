-- Documents are gathered one after another: what is known and wanted then.
use Rattle.std.proofs.Common.{◌≡◌, ◌∙◌, refl, sym, ap, subst, ℕ, ◌+◌, ◌≤◌, Bool, true, false, ◌||◌, not, cond, List, [], ◌∷◌, ◌++◌, flat_map, filter, length, slice_get, bytes_eq, Option, Some, None, is_some, option_map, Result, Ok, Err, append_assoc, append-nil, length-append, arith}
use Rattle.std.specs.Prelude.{IfOk, IfSome}
use Rattle.std.specs.HashMap.{get}
use Rattle.std.specs.List.{find, list_any, AllByRecursion}
use Rattle.std.specs.Option.{option_to_list}
use Rattle.std.proofs.lemmas.List.{length-map}
use Rattle.std.proofs.lemmas.List.Concat.{flat_map-append}
use Rattle.std.specs.declared.rc.Rc.{Rc}
use Rattle.std.specs.declared.alloc.Global.{Global}
use Rattle.ref_uri.specs.declared.uri.Uri.{Uri}
use Rattle.std.proofs.lemmas.List.Elements.{filter-append}
use Rattle.std.proofs.lemmas.List.Folds.{list_any-append}
use Rattle.std.proofs.lemmas.Slice.Eq.{bytes_eq-Decides}
use Rattle.serde_json.specs.Data.{Data}
use Rattle.serde_json.specs.View.{view}
use Rattle.ref_draft.specs.declared.draft.Draft.{Draft}
use Rattle.ref_draft.proofs.Lists.{all_append}
use Rattle.ref_definitions.specs.Preparing.{Retriever}
use Rattle.ref_findings.specs.declared.gathering.Wants as rust
use Rattle.ref_findings.specs.declared.gathering.Held.{Held}
use Rattle.ref_definitions.specs.Resources.{own_uri}
use Rattle.ref_findings.specs.Sources.{Source, places_in, uris_in}
use Rattle.ref_findings.specs.Gathered.{wanted_by, is_known, next_wanted, has_tree, MayReturn, IsGathered, begun, asked}
use Rattle.ref_findings.specs.Held.{held_source}
use Rattle.ref_findings.specs.inner.Wanted.{wanted_of, AreMet, Grows, source_asked, IsState, IsGoing}

-- ---- what is known and wanted grows

joined_one : {X A : Type 0} (f : X → List A) (xs : List X) (x : X) → flat_map f (xs ++ x ∷ []) ≡ flat_map f xs ++ f x
joined_one f xs x = flat_map-append f xs (x ∷ []) ∙ ap (λ l. flat_map f xs ++ l) (append-nil (f x))

pub grown_twice : (a b c : rust.Wants) (m w n v : List (List ℕ)) → Grows a b m w → Grows b c n v → Grows a c (m ++ n) (w ++ v)
grown_twice a b c m w n v first second = (
  λ uris are. subst (AreMet c) (append_assoc uris m n) (second.0 (uris ++ m) (first.0 uris are)),
  second.1 ∙ ap (λ l. l ++ v) first.1 ∙ append_assoc (wanted_of a) w v,
  second.2 ∙ first.2,
)

pub grown_none : (a : rust.Wants) → Grows a a [] []
grown_none a = (λ uris are. subst (AreMet a) (sym (append-nil uris)) are, sym (append-nil (wanted_of a)), refl)

-- the same lists in another form
pub grown_so : (a b c : rust.Wants) (m w n v met wanted : List (List ℕ)) → Grows a b m w → Grows b c n v → met ≡ m ++ n → wanted ≡ w ++ v → Grows a c met wanted
grown_so a b c m w n v met wanted first second is_met is_wanted =
    subst (λ l. Grows a c l wanted) (sym is_met) (subst (λ l. Grows a c (m ++ n) l) (sym is_wanted) (grown_twice a b c m w n v first second))

-- a URI that a place has, and three that it wants
pub grown_by_place : (a b c e d : rust.Wants) (own referred dynamic dialect o r y t : Option (List ℕ)) → Grows a b (option_to_list own) [] → Grows b c [] (option_to_list referred)
    → Grows c e [] (option_to_list dynamic) → Grows e d [] (option_to_list dialect) → own ≡ o → referred ≡ r → dynamic ≡ y → dialect ≡ t
    → Grows a d (option_to_list o) (option_to_list r ++ (option_to_list y ++ option_to_list t))
grown_by_place a b c e d own referred dynamic dialect o r y t first second third fourth is_own is_referred is_dynamic is_dialect =
    let two = grown_twice a b c (option_to_list own) [] [] (option_to_list referred) first second in
    let rest = grown_twice c e d [] (option_to_list dynamic) [] (option_to_list dialect) third fourth in
    let all = grown_twice a c d (option_to_list own ++ []) (option_to_list referred) [] (option_to_list dynamic ++ option_to_list dialect) two rest in
    let met : (option_to_list own ++ []) ++ [] ≡ option_to_list o = append-nil (option_to_list own ++ []) ∙ append-nil (option_to_list own) ∙ ap option_to_list is_own in
    subst (λ l. Grows a d l (option_to_list r ++ (option_to_list y ++ option_to_list t))) met
    (subst (λ x. Grows a d ((option_to_list own ++ []) ++ []) (option_to_list x ++ (option_to_list y ++ option_to_list t))) is_referred
    (subst (λ x. Grows a d ((option_to_list own ++ []) ++ []) (option_to_list referred ++ (option_to_list x ++ option_to_list t))) is_dynamic
    (subst (λ x. Grows a d ((option_to_list own ++ []) ++ []) (option_to_list referred ++ (option_to_list dynamic ++ option_to_list x))) is_dialect all)))

-- ---- a key that is put in, or is there

some_or : {X : Type 0} (b : Bool) (x : X) (o : Option X) → is_some (cond b (Some x) o) ≡ (is_some o || (b || false))
some_or true x None = refl
some_or true x (Some y) = refl
some_or false x None = refl
some_or false x (Some y) = refl

pub put_met : {X : Type 0} (before after : List ℕ → Option X) (x : X) (key : List ℕ) → ((q : List ℕ) → after q ≡ cond (bytes_eq key q) (Some x) (before q)) → (uris : List (List ℕ))
    → ((q : List ℕ) → is_some (before q) ≡ list_any (λ known. bytes_eq known q) uris) → (q : List ℕ) → is_some (after q) ≡ list_any (λ known. bytes_eq known q) (uris ++ key ∷ [])
put_met before after x key put uris met q =
    ap is_some (put q) ∙ some_or (bytes_eq key q) x (before q) ∙ ap (λ b. b || (bytes_eq key q || false)) (met q) ∙ sym (list_any-append (λ known. bytes_eq known q) uris (key ∷ []))

or_same : (b c : Bool) → (c ≡ true → b ≡ true) → (b || (c || false)) ≡ b
or_same true c is = refl
or_same false true is = sym (is refl)
or_same false false is = refl

pub there_met : {X : Type 0} (before : List ℕ → Option X) (key : List ℕ) → is_some (before key) ≡ true → (uris : List (List ℕ))
    → ((q : List ℕ) → is_some (before q) ≡ list_any (λ known. bytes_eq known q) uris) → (q : List ℕ) → is_some (before q) ≡ list_any (λ known. bytes_eq known q) (uris ++ key ∷ [])
there_met before key there uris met q =
    let test : List ℕ → Bool = λ known. bytes_eq known q in
    let any : bytes_eq key q ≡ true → list_any test uris ≡ true = λ same. sym (met q) ∙ ap (λ u. is_some (before u)) (sym ((bytes_eq-Decides key q).0 same)) ∙ there in
    met q ∙ sym (list_any-append test uris (key ∷ []) ∙ or_same (list_any test uris) (bytes_eq key q) any)

-- ---- what is known stays known

known_more : (draft : Draft) (sources : List Source) (x : Source) (uri : List ℕ) → is_known draft sources uri ≡ true → is_known draft (sources ++ x ∷ []) uri ≡ true
known_more draft sources x uri is =
    let test : List ℕ → Bool = λ known. bytes_eq known uri in
    ap (list_any test) (joined_one (uris_in draft) sources x) ∙ list_any-append test (flat_map (uris_in draft) sources) (uris_in draft x)
    ∙ ap (λ b. b || list_any test (uris_in draft x)) is

or_true : (b c : Bool) → c ≡ true → (b || c) ≡ true
or_true true c is = refl
or_true false c is = is

known_last : (draft : Draft) (sources : List Source) (x : Source) → is_known draft (sources ++ x ∷ []) x.uri ≡ true
known_last draft sources x =
    let test : List ℕ → Bool = λ known. bytes_eq known x.uri in
    let own : bytes_eq x.uri x.uri ≡ true = (bytes_eq-Decides x.uri x.uri).1 refl in
    let here : list_any test (uris_in draft x) ≡ true = ap (λ b. b || list_any test (flat_map (λ p. option_to_list (own_uri p)) (places_in draft x))) own in
    ap (list_any test) (joined_one (uris_in draft) sources x) ∙ list_any-append test (flat_map (uris_in draft) sources) (uris_in draft x)
    ∙ or_true (list_any test (flat_map (uris_in draft) sources)) (list_any test (uris_in draft x)) here

abbrev Known : Draft → List Source → List (List ℕ) → Type 0
Known draft sources uris = AllByRecursion (λ uri. is_known draft sources uri ≡ true) uris

all_more : (draft : Draft) (sources : List Source) (x : Source) (uris : List (List ℕ)) → Known draft sources uris → Known draft (sources ++ x ∷ []) uris
all_more draft sources x [] all = tt
all_more draft sources x (uri ∷ uris) all = (known_more draft sources x uri all.0, all_more draft sources x uris all.1)

-- ---- the first that isn't known

past : (draft : Draft) (sources : List Source) (passed rest : List (List ℕ)) → Known draft sources passed
    → find (λ uri. not (is_known draft sources uri)) (passed ++ rest) ≡ find (λ uri. not (is_known draft sources uri)) rest
past draft sources [] rest all = refl
past draft sources (uri ∷ passed) rest all =
    ap (λ b. cond (not b) (Some uri) (find (λ u. not (is_known draft sources u)) (passed ++ rest))) all.0 ∙ past draft sources passed rest all.1

here : {X : Type 0} (passed waiting : List X) (x : X) → slice_get (passed ++ waiting) (length passed) ≡ Some x → (rest : List X) × (waiting ≡ x ∷ rest)
here [] [] x at = cc
here [] (y ∷ waiting) x at = let same : y ≡ x = cc in (waiting, ap (λ z. z ∷ waiting) same)
here (p ∷ passed) waiting x at = here passed waiting x at

none_left : {X : Type 0} (passed waiting : List X) → length (passed ++ waiting) ≤ length passed → waiting ≡ []
none_left passed [] all = refl
none_left passed (x ∷ waiting) all = absurd (omega (arith, all, length-append passed (x ∷ waiting)))

module _ (draft : Draft) (sources : List Source) (w : rust.Wants) (s : IsState draft sources w) where
  -- the one that is next waits
  waits : (uri : List ℕ) → slice_get (wanted_of w) w.next ≡ Some uri → (rest : List (List ℕ)) × (s.waiting ≡ uri ∷ rest)
  waits uri at = here s.passed s.waiting uri (subst (λ n. slice_get (s.passed ++ s.waiting) n ≡ Some uri) s.next (subst (λ l. slice_get l w.next ≡ Some uri) s.split at))

  split_past : (uri : List ℕ) (rest : List (List ℕ)) → s.waiting ≡ uri ∷ rest → wanted_of w ≡ (s.passed ++ uri ∷ []) ++ rest
  split_past uri rest is = s.split ∙ ap (λ l. s.passed ++ l) is ∙ sym (append_assoc s.passed (uri ∷ []) rest)

  length_past : (uri : List ℕ) → w.next + 1 ≡ length (s.passed ++ uri ∷ [])
  length_past uri = ap (λ n. n + 1) s.next ∙ sym (length-append s.passed (uri ∷ []))

  pub next_is : (uri : List ℕ) → slice_get (wanted_of w) w.next ≡ Some uri → is_known draft sources uri ≡ false → next_wanted draft sources ≡ Some uri
  next_is uri at unknown =
      let left = waits uri at in
      let test : List ℕ → Bool = λ u. not (is_known draft sources u) in
      ap (find test) (sym s.wanted ∙ s.split ∙ ap (λ l. s.passed ++ l) left.1) ∙ past draft sources s.passed (uri ∷ left.0) s.known
      ∙ ap (λ b. cond (not b) (Some uri) (find test left.0)) unknown

  pub none_next : length (wanted_of w) ≤ w.next → next_wanted draft sources ≡ None
  none_next all =
      let test : List ℕ → Bool = λ u. not (is_known draft sources u) in
      let none : s.waiting ≡ [] = none_left s.passed s.waiting (omega (arith, all, ap length s.split, s.next)) in
      ap (find test) (sym s.wanted ∙ s.split ∙ ap (λ l. s.passed ++ l) none) ∙ past draft sources s.passed [] s.known

  -- the next one is passed, which is known
  module _ (v : rust.Wants) (uri : List ℕ) (same : wanted_of v ≡ wanted_of w) (met : (uris : List (List ℕ)) → AreMet w uris → AreMet v uris) (next : v.next ≡ w.next + 1)
      (at : slice_get (wanted_of w) w.next ≡ Some uri) where
    pub state_passed : is_known draft sources uri ≡ true → IsState draft sources v
    state_passed known =
        let left = waits uri at in
        record {
          passed = s.passed ++ uri ∷ [];
          waiting = left.0;
          met = met (flat_map (uris_in draft) sources) s.met;
          split = same ∙ split_past uri left.0 left.1;
          wanted = same ∙ s.wanted;
          next = next ∙ length_past uri;
          known = all_append (λ u. is_known draft sources u ≡ true) s.passed (uri ∷ []) s.known (known, tt);
        }

    -- or was asked for
    pub state_asked : (u : rust.Wants) (tree : Option Data) (x : Source) → x ≡ record { uri = uri; tree = tree } → Grows v u (uris_in draft x) (wanted_by draft x)
        → IsState draft (sources ++ x ∷ []) u
    state_asked u tree x is grows =
        let left = waits uri at in
        let last : is_known draft (sources ++ x ∷ []) uri ≡ true = subst (λ (y : Source). is_known draft (sources ++ x ∷ []) y.uri ≡ true) is (known_last draft sources x) in
        record {
          passed = s.passed ++ uri ∷ [];
          waiting = left.0 ++ wanted_by draft x;
          met = subst (AreMet u) (sym (joined_one (uris_in draft) sources x)) (grows.0 (flat_map (uris_in draft) sources) (met (flat_map (uris_in draft) sources) s.met));
          split = grows.1 ∙ ap (λ l. l ++ wanted_by draft x) (same ∙ split_past uri left.0 left.1) ∙ append_assoc (s.passed ++ uri ∷ []) left.0 (wanted_by draft x);
          wanted = grows.1 ∙ ap (λ l. l ++ wanted_by draft x) (same ∙ s.wanted) ∙ sym (joined_one (wanted_by draft) sources x);
          next = grows.2 ∙ next ∙ length_past uri;
          known = all_append (λ u. is_known draft (sources ++ x ∷ []) u ≡ true) s.passed (uri ∷ []) (all_more draft sources x s.passed s.known) (last, tt);
        }

-- ---- what was gathered

one_returned : (uri : List ℕ) (held : Option Held) → ((h : Held) → held ≡ Some h → h.uri ≡ uri) → filter has_tree (source_asked uri held ∷ []) ≡ option_to_list (option_map held_source held)
one_returned uri None same = refl
one_returned uri (Some h) same = ap (λ u. record { uri = u; tree = Some (view h.value) } ∷ []) (sym (same h refl))

module _ (retriever : Retriever) (draft : Draft) (sources : List Source) (w v : rust.Wants) (gathered : List Source) (uri : List ℕ) (g : IsGoing retriever draft sources w gathered)
    (same : wanted_of v ≡ wanted_of w) (met : (uris : List (List ℕ)) → AreMet w uris → AreMet v uris) (next : v.next ≡ w.next + 1) (at : slice_get (wanted_of w) w.next ≡ Some uri) where
  pub going_passed : is_some (get bytes_eq w.met uri) ≡ true → IsGoing retriever draft sources v (gathered ++ [])
  going_passed is =
      record {
        asked = g.asked;
        run = g.run;
        returned = g.returned ∙ sym (append-nil gathered);
        state = state_passed draft (sources ++ g.asked) w g.state v uri same met next at (sym (g.state.met uri) ∙ is);
      }

  pub going_asked : (u : rust.Wants) (held : Option Held) → is_some (get bytes_eq w.met uri) ≡ false → MayReturn retriever uri (source_asked uri held).tree
      → ((h : Held) → held ≡ Some h → h.uri ≡ uri) → Grows v u (uris_in draft (source_asked uri held)) (wanted_by draft (source_asked uri held))
      → IsGoing retriever draft sources u (gathered ++ option_to_list (option_map held_source held))
  going_asked u held unknown may named grows =
      let x = source_asked uri held in
      record {
        asked = g.asked ++ x ∷ [];
        run = asked g.asked uri x.tree g.run (next_is draft (sources ++ g.asked) w g.state uri at (sym (g.state.met uri) ∙ unknown)) may;
        returned = filter-append has_tree g.asked (x ∷ []) ∙ ap (λ l. l ++ filter has_tree (x ∷ [])) g.returned ∙ ap (λ l. gathered ++ l) (one_returned uri held named);
        state = subst (λ l. IsState draft l u) (append_assoc sources g.asked (x ∷ [])) (state_asked draft (sources ++ g.asked) w g.state v uri same met next at u x.tree x refl grows);
      }

-- what holds of an answer
pub if_ok_all : {A E : Type 0} (r : Result A E) (P Q S T : A → Type 0) → IfOk r P → IfOk r Q → IfOk r S → ((a : A) → P a → Q a → S a → T a) → IfOk r T
if_ok_all (Ok a) P Q S T p q s all = all a p q s
if_ok_all (Err e) P Q S T p q s all = tt

pub of_some : {A : Type 0} (o : Option A) (P : A → Type 0) → IfSome o P → (a : A) → o ≡ Some a → P a
of_some None P holds a is = cc
of_some (Some b) P holds a is = let same : b ≡ a = cc in subst P same holds

-- all was gathered where no URI waits
pub gathered_all : (retriever : Retriever) (draft : Draft) (sources : List Source) (w : rust.Wants) (limit : ℕ) (gathered : List Source) → IsGoing retriever draft sources w gathered
    → length w.wanted.items ≤ w.next → IsGathered retriever draft sources limit gathered
gathered_all retriever draft sources w limit gathered g all =
    record {
      asked = g.asked;
      run = g.run;
      returned = g.returned;
      complete = λ less. none_next draft (sources ++ g.asked) w g.state (omega (arith, all, length-map w.wanted.items (λ (u : Rc Uri Global). u.value)));
    }

-- or where as many are there as may be
pub gathered_most : (retriever : Retriever) (draft : Draft) (sources : List Source) (w : rust.Wants) (limit : ℕ) (gathered : List Source) → IsGoing retriever draft sources w gathered
    → limit ≤ length gathered → IsGathered retriever draft sources limit gathered
gathered_most retriever draft sources w limit gathered g most =
    record {
      asked = g.asked;
      run = g.run;
      returned = g.returned;
      complete = λ less. absurd (omega (arith, most, less));
    }

-- what sources have and want, before anything was asked for
pub going_begun : (retriever : Retriever) (draft : Draft) (sources : List Source) (w : rust.Wants) → AreMet w (flat_map (uris_in draft) sources)
    → wanted_of w ≡ flat_map (wanted_by draft) sources → w.next ≡ 0 → IsGoing retriever draft sources w []
going_begun retriever draft sources w met wanted next =
    record {
      asked = [];
      run = begun;
      returned = refl;
      state = subst (λ l. IsState draft l w) (sym (append-nil sources)) (record {
        passed = [];
        waiting = wanted_of w;
        met = met;
        split = refl;
        wanted = wanted;
        next = next;
        known = tt;
      });
    }
