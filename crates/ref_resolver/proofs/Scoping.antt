-- A dynamic anchor, URI by URI of the dynamic scope.
use Rattle.std.proofs.Common.{◌≡◌, ℕ, Bool, true, false, List, [], ◌∷◌, ◌++◌, cond, filter, flat_map, Option, Some, None, Result, Ok, Err, IfSome, Bor, map, refl, sym, ap, subst, ◌∙◌}
use Rattle.std.specs.Prelude.{◌==◌}
use Rattle.std.specs.List.{list_any, last_or}
use Rattle.std.specs.Option.{unwrap_or, ok_or, option_or, option_to_list}
use Rattle.std.proofs.lemmas.Grind.{flat_map-append}
use Rattle.std.proofs.lemmas.List.{append-nil, map-append}
use Rattle.std.proofs.lemmas.List.Elements.{filter-append}
use Rattle.ref_definitions.specs.World.{World}
use Rattle.ref_parts.specs.Pointer.{slash}
use Rattle.ref_definitions.specs.Fault.{Fault, NoSuchAnchor, InvalidAnchor}
use Rattle.ref_definitions.specs.Anchors.{Named, named_entry, named_by_identifier, not_named, anchor}
use Rattle.ref_definitions.specs.Lookup.{Resolver, Found, fault_of, entry_of, is_dynamic, unless_fault, entry_found, outermost, by_scope, in_scope}
use Rattle.serde_json.specs.View.{view}
use Rattle.ref_resolver.specs.declared.located.Located.{Located}
use Rattle.ref_resolver.specs.inner.Located.{IsLocated}
use Rattle.ref_resolver.specs.inner.Leading.{under_uri}
use Rattle.ref_resolver.specs.inner.Scoped.{dynamic_of, dynamic_under, IsOutermost}

abbrev Meaning : Type 0
Meaning = List ℕ × Result Named Fault

abbrev dynamic : List ℕ × Named → Bool
dynamic e = is_dynamic e.1.kind

-- the answer, where this entry was found last and these meanings are to come
abbrev pub from_here : Resolver → List ℕ × Named → List Meaning → Result Found Fault
from_here r e meanings = unless_fault (flat_map fault_of meanings) (entry_found r (outermost e (flat_map entry_of meanings)))

last_from : {X : Type 0} (x e : X) (xs : List X) → unwrap_or (last_or (Some x) xs) e ≡ unwrap_or (last_or None xs) x
last_from x e [] = refl
last_from x e (y ∷ xs) = last_from y e xs ∙ sym (last_from y x xs)

no_fault : {A : Type 0} (faults : List Fault) (x y : A) → unless_fault faults (Ok x) ≡ Ok y → (faults ≡ []) × (x ≡ y)
no_fault [] x y is = (refl, cc)
no_fault (f ∷ faults) x y is = cc

first_fault : {A B : Type 0} (faults more : List Fault) (x : A) (answer : Result B Fault) (fault : Fault) → unless_fault faults (Ok x) ≡ Err fault → unless_fault (faults ++ more) answer ≡ Err fault
first_fault [] more x answer fault is = cc
first_fault (f ∷ faults) more x answer fault is = (let same : f ≡ fault = cc in ap (λ g. Err g) same)

-- a meaning that is no fault: the entries go on with its dynamic one
goes_on : (r : Resolver) (e : List ℕ × Named) (m : Meaning) (more : List Meaning) (es : List (List ℕ × Named)) → dynamic_of m ≡ Ok es
    → from_here r e (m ∷ more) ≡ unless_fault (flat_map fault_of more) (entry_found r (unwrap_or (last_or None (es ++ filter dynamic (flat_map entry_of more))) e))
goes_on r e m more es is =
    let (none, same) = no_fault (fault_of m) (filter dynamic (entry_of m)) es is in
    ap (λ faults. unless_fault (faults ++ flat_map fault_of more) (entry_found r (outermost e (entry_of m ++ flat_map entry_of more)))) none
    ∙ ap (λ xs. unless_fault (flat_map fault_of more) (entry_found r (unwrap_or (last_or None xs) e)))
    (filter-append dynamic (entry_of m) (flat_map entry_of more) ∙ ap (λ xs. xs ++ filter dynamic (flat_map entry_of more)) same)

-- without a dynamic one the entry stays
passed : (r : Resolver) (e : List ℕ × Named) (m : Meaning) (more : List Meaning) → dynamic_of m ≡ Ok [] → from_here r e (m ∷ more) ≡ from_here r e more
passed r e m more is = goes_on r e m more [] is

-- and with one it is taken
taken : (r : Resolver) (e x : List ℕ × Named) (m : Meaning) (more : List Meaning) → dynamic_of m ≡ Ok (x ∷ []) → from_here r e (m ∷ more) ≡ from_here r x more
taken r e x m more is =
    goes_on r e m more (x ∷ []) is ∙ ap (λ y. unless_fault (flat_map fault_of more) (entry_found r y)) (last_from x e (filter dynamic (flat_map entry_of more)))

-- the last entry alone, of a meaning that is no fault
last_on : (e : List ℕ × Named) (m : Meaning) (more : List Meaning) (es : List (List ℕ × Named)) → dynamic_of m ≡ Ok es
    → outermost e (flat_map entry_of (m ∷ more)) ≡ unwrap_or (last_or None (es ++ filter dynamic (flat_map entry_of more))) e
last_on e m more es is =
    let (none, same) = no_fault (fault_of m) (filter dynamic (entry_of m)) es is in
    ap (λ xs. unwrap_or (last_or None xs) e) (filter-append dynamic (entry_of m) (flat_map entry_of more) ∙ ap (λ xs. xs ++ filter dynamic (flat_map entry_of more)) same)

last_passed : (e : List ℕ × Named) (m : Meaning) (more : List Meaning) → dynamic_of m ≡ Ok [] → outermost e (flat_map entry_of (m ∷ more)) ≡ outermost e (flat_map entry_of more)
last_passed e m more is = last_on e m more [] is

last_taken : (e x : List ℕ × Named) (m : Meaning) (more : List Meaning) → dynamic_of m ≡ Ok (x ∷ []) → outermost e (flat_map entry_of (m ∷ more)) ≡ outermost x (flat_map entry_of more)
last_taken e x m more is = last_on e m more (x ∷ []) is ∙ last_from x e (filter dynamic (flat_map entry_of more))

-- a fault ends it
ended : (r : Resolver) (e : List ℕ × Named) (m : Meaning) (more : List Meaning) (fault : Fault) → dynamic_of m ≡ Err fault → from_here r e (m ∷ more) ≡ Err fault
ended r e m more fault is =
    first_fault (fault_of m) (flat_map fault_of more) (filter dynamic (entry_of m)) (entry_found r (outermost e (entry_of m ++ flat_map entry_of more))) fault is

-- ---- the next URI of the scope

module _ (w : World) (r : Resolver) (name : List ℕ) (e : List ℕ × Named) (uri : List ℕ) (left more : List (List ℕ)) (steps : left ≡ uri ∷ more) where
  abbrev means : Meaning
  means = (uri, anchor w uri name)

  pub turn_ended : (fault : Fault) → dynamic_under w uri name ≡ Err fault → from_here r e (in_scope w name left) ≡ Err fault
  turn_ended fault is = ap (λ xs. from_here r e (in_scope w name xs)) steps ∙ ended r e means (in_scope w name more) fault is

  turn_passed : dynamic_under w uri name ≡ Ok [] → from_here r e (in_scope w name left) ≡ from_here r e (in_scope w name more)
  turn_passed is = ap (λ xs. from_here r e (in_scope w name xs)) steps ∙ passed r e means (in_scope w name more) is

  turn_taken : (n : Named) → dynamic_under w uri name ≡ Ok ((uri, n) ∷ []) → from_here r e (in_scope w name left) ≡ from_here r (uri, n) (in_scope w name more)
  turn_taken n is = ap (λ xs. from_here r e (in_scope w name xs)) steps ∙ taken r e (uri, n) means (in_scope w name more) is

  -- the last entry alone
  last_turn_passed : dynamic_under w uri name ≡ Ok [] → outermost e (flat_map entry_of (in_scope w name left)) ≡ outermost e (flat_map entry_of (in_scope w name more))
  last_turn_passed is = ap (λ xs. outermost e (flat_map entry_of (in_scope w name xs))) steps ∙ last_passed e means (in_scope w name more) is

  last_turn_taken : (n : Named) → dynamic_under w uri name ≡ Ok ((uri, n) ∷ []) → outermost e (flat_map entry_of (in_scope w name left)) ≡ outermost (uri, n) (flat_map entry_of (in_scope w name more))
  last_turn_taken n is = ap (λ xs. outermost e (flat_map entry_of (in_scope w name xs))) steps ∙ last_taken e (uri, n) means (in_scope w name more) is

-- a place is that of the entry that was found last, which stands for the first one where these URIs are to come
abbrev pub IsFoundFor : World → Resolver → List ℕ → Named → List ℕ → List (List ℕ) → Located → Type 0
IsFoundFor w r name n uri left l =
    (m : Named) × (by_scope r n (in_scope w name r.scope) ≡ from_here r (uri, m) (in_scope w name left))
    × IsLocated l m.place
    × (anchor w r.base name ≡ Ok n → anchor w uri name ≡ Ok m)
    × (outermost (r.base, n) (flat_map entry_of (in_scope w name r.scope)) ≡ outermost (uri, m) (flat_map entry_of (in_scope w name left)))

-- the entry's place, as the code has it
pub found_under : (r : Resolver) (uri : List ℕ) (n : Named) (l : Located) → IsLocated l n.place → entry_found r (uri, n) ≡ under_uri r uri l.entry.now.draft (view l.value.now)
found_under r uri n l at = ap (λ d. under_uri r uri d n.place.value) (sym at.draft) ∙ ap (λ v. under_uri r uri l.entry.now.draft v) (sym at.value)

no_list : {A : Type 0} (x : A) (xs : List A) → [] ≡ x ∷ xs → ⊥
no_list x xs is = cc

-- a dynamic entry is what the name means
dynamic_means : (uri : List ℕ) (meaning : Result Named Fault) (n : Named) → dynamic_of (uri, meaning) ≡ Ok ((uri, n) ∷ []) → meaning ≡ Ok n
dynamic_means uri meaning n is = by_answer meaning n is
  where
    first : Named → List (List ℕ × Named) → Named
    first n [] = n
    first n (e ∷ es) = e.1

    by_kind : (b : Bool) (m n : Named) → cond {A = List (List ℕ × Named)} b ((uri, m) ∷ []) [] ≡ (uri, n) ∷ [] → m ≡ n
    by_kind true m n is = ap (first n) is
    by_kind false m n is = cc

    by_answer : (meaning : Result Named Fault) (n : Named) → dynamic_of (uri, meaning) ≡ Ok ((uri, n) ∷ []) → meaning ≡ Ok n
    by_answer (Ok m) n is = ap (λ k. Ok k) (by_kind (is_dynamic m.kind) m n (no_fault [] (filter dynamic ((uri, m) ∷ [])) ((uri, n) ∷ []) is).1)
    by_answer (Err fault) n is = absurd (no_list (uri, n) [] (no_fault (fault_of (uri, Err fault)) [] ((uri, n) ∷ []) is).1)

-- a URI without a dynamic entry keeps the place
pub place_stays : (w : World) (r : Resolver) (name : List ℕ) (n : Named) (uri outer : List ℕ) (left more : List (List ℕ)) (l : Located) → left ≡ outer ∷ more → dynamic_under w outer name ≡ Ok [] → IsFoundFor w r name n uri left l
    → IsFoundFor w r name n uri more l
place_stays w r name n uri outer left more l steps none (m, same, at, meant, last) =
    (m, same ∙ turn_passed w r name (uri, m) outer left more steps none, at, meant, last ∙ last_turn_passed w r name (uri, m) outer left more steps none)

-- one with a dynamic entry has the place of that entry
pub place_taken : (w : World) (r : Resolver) (name : List ℕ) (n : Named) (uri outer : List ℕ) (left more : List (List ℕ)) (l found : Located) → left ≡ outer ∷ more
    → (d : Named) × (dynamic_under w outer name ≡ Ok ((outer, d) ∷ [])) × IsLocated found d.place → IsFoundFor w r name n uri left l → IsFoundFor w r name n outer more found
place_taken w r name n uri outer left more l found steps (d, dynamic, there) (m, same, at, meant, last) =
    (d, same ∙ turn_taken w r name (uri, m) outer left more steps d dynamic, there, λ first. dynamic_means outer (anchor w outer name) d dynamic, last ∙ last_turn_taken w r name (uri, m) outer left more steps d dynamic)

-- ---- from the last URI on

-- a meaning that is no fault, at the end, adds no fault
faults_at_end : (ms : List Meaning) (m : Meaning) (es : List (List ℕ × Named)) → dynamic_of m ≡ Ok es → flat_map fault_of (ms ++ m ∷ []) ≡ flat_map fault_of ms
faults_at_end ms m es is =
    let (none, same) = no_fault (fault_of m) (filter dynamic (entry_of m)) es is in
    flat_map-append fault_of ms (m ∷ []) ∙ ap (λ faults. flat_map fault_of ms ++ (faults ++ [])) none ∙ append-nil (flat_map fault_of ms)

-- and its dynamic entries come last
entries_at_end : (ms : List Meaning) (m : Meaning) (es : List (List ℕ × Named)) → dynamic_of m ≡ Ok es
    → filter dynamic (flat_map entry_of (ms ++ m ∷ [])) ≡ filter dynamic (flat_map entry_of ms) ++ es
entries_at_end ms m es is =
    let (none, same) = no_fault (fault_of m) (filter dynamic (entry_of m)) es is in
    ap (filter dynamic) (flat_map-append entry_of ms (m ∷ []))
    ∙ filter-append dynamic (flat_map entry_of ms) (entry_of m ++ [])
    ∙ ap (λ xs. filter dynamic (flat_map entry_of ms) ++ xs) (ap (filter dynamic) (append-nil (entry_of m)) ∙ same)

last_at_end : {X : Type 0} (o : Option X) (xs : List X) (x : X) → last_or o (xs ++ x ∷ []) ≡ Some x
last_at_end o [] x = refl
last_at_end o (y ∷ xs) x = last_at_end (Some y) xs x

-- where the last URIs have no dynamic entry, the answer is what it is by those before them
abbrev pub IsLeft : World → Resolver → List ℕ → Named → List (List ℕ) → Type 0
IsLeft w r name n left =
    (by_scope r n (in_scope w name r.scope) ≡ from_here r (r.base, n) (in_scope w name left))
    × (outermost (r.base, n) (flat_map entry_of (in_scope w name r.scope)) ≡ outermost (r.base, n) (flat_map entry_of (in_scope w name left)))

-- at first these are all
pub all_left : (w : World) (r : Resolver) (name : List ℕ) (n : Named) (uris : List (List ℕ)) → uris ≡ r.scope → IsLeft w r name n uris
all_left w r name n uris is = (ap (λ xs. from_here r (r.base, n) (in_scope w name xs)) (sym is), ap (λ xs. outermost (r.base, n) (flat_map entry_of (in_scope w name xs))) (sym is))

meanings_at_end : (w : World) (name : List ℕ) (front : List (List ℕ)) (uri : List ℕ) → in_scope w name (front ++ uri ∷ []) ≡ in_scope w name front ++ (uri, anchor w uri name) ∷ []
meanings_at_end w name front uri = map-append (λ u. (u, anchor w u name)) front (uri ∷ [])

-- the last one is passed where it has none
pub left_before : (w : World) (r : Resolver) (name : List ℕ) (n : Named) (front : List (List ℕ)) (uri : List ℕ) → dynamic_under w uri name ≡ Ok [] → IsLeft w r name n (front ++ uri ∷ []) → IsLeft w r name n front
left_before w r name n front uri none (same, last) =
    let ms = in_scope w name front in
    let m : Meaning = (uri, anchor w uri name) in
    let all = meanings_at_end w name front uri in
    let faults = faults_at_end ms m [] none in
    let entries = entries_at_end ms m [] none ∙ append-nil (filter dynamic (flat_map entry_of ms)) in (
      same
          ∙ ap (from_here r (r.base, n)) all
          ∙ ap (λ fs. unless_fault fs (entry_found r (outermost (r.base, n) (flat_map entry_of (ms ++ m ∷ []))))) faults
          ∙ ap (λ xs. unless_fault (flat_map fault_of ms) (entry_found r (unwrap_or (last_or None xs) (r.base, n)))) entries,
      last ∙ ap (λ s. outermost (r.base, n) (flat_map entry_of s)) all ∙ ap (λ xs. unwrap_or (last_or None xs) (r.base, n)) entries,
    )

-- a name without `/` that nothing has is no fault that ends a lookup
abbrev IsPlain : List ℕ → Type 0
IsPlain name = list_any (λ c. c == slash) name ≡ false

pub no_such_anchor : (name : List ℕ) → IsPlain name → not_named name ≡ NoSuchAnchor name
no_such_anchor name plain = ap (λ t. cond t (InvalidAnchor name) (NoSuchAnchor name)) plain

no_fault_of : (uri name : List ℕ) (o : Option Named) (fault : Fault) → fault ≡ NoSuchAnchor name → fault_of (uri, ok_or o fault) ≡ []
no_fault_of uri name None fault is = ap (λ f. fault_of (uri, Err f)) is
no_fault_of uri name (Some n) fault is = refl

no_fault_under : (w : World) (uri name : List ℕ) → IsPlain name → fault_of (uri, anchor w uri name) ≡ []
unfolding anchor
no_fault_under w uri name plain = no_fault_of uri name (option_or (named_entry w uri name) (named_by_identifier w uri name)) (not_named name) (no_such_anchor name plain)

no_faults : (w : World) (name : List ℕ) (uris : List (List ℕ)) → IsPlain name → flat_map fault_of (in_scope w name uris) ≡ []
no_faults w name [] plain = refl
no_faults w name (uri ∷ uris) plain = ap (λ faults. faults ++ flat_map fault_of (in_scope w name uris)) (no_fault_under w uri name plain) ∙ no_faults w name uris plain

-- the last one that has a dynamic entry is the outermost
pub found_last : (w : World) (r : Resolver) (name : List ℕ) (n : Named) (front : List (List ℕ)) (uri : List ℕ) (l : Located) → IsPlain name
    → (d : Named) × (dynamic_under w uri name ≡ Ok ((uri, d) ∷ [])) × IsLocated l d.place → IsLeft w r name n (front ++ uri ∷ []) → IsOutermost w r n name uri l
found_last w r name n front uri l plain (d, has, there) (same, last) =
    let uris = front ++ uri ∷ [] in
    let ms = in_scope w name front in
    let m : Meaning = (uri, anchor w uri name) in
    let outer : outermost (r.base, n) (flat_map entry_of (in_scope w name uris)) ≡ (uri, d) =
    ap (λ s. outermost (r.base, n) (flat_map entry_of s)) (meanings_at_end w name front uri)
    ∙ ap (λ xs. unwrap_or (last_or None xs) (r.base, n)) (entries_at_end ms m ((uri, d) ∷ []) has)
    ∙ ap (λ o. unwrap_or o (r.base, n)) (last_at_end None (filter dynamic (flat_map entry_of ms)) (uri, d)) in (
      d,
      same ∙ ap (λ fs. unless_fault fs (entry_found r (outermost (r.base, n) (flat_map entry_of (in_scope w name uris))))) (no_faults w name uris plain) ∙ ap (entry_found r) outer,
      there,
      λ first. dynamic_means uri (anchor w uri name) d has,
      ap (λ (x : List ℕ × Named). x.0) (last ∙ outer),
    )

-- and where none has one, it is what was found first
pub found_first : (w : World) (r : Resolver) (name : List ℕ) (n : Named) (uris : List (List ℕ)) (l : Located) → uris ≡ [] → IsLocated l n.place → IsLeft w r name n uris → IsOutermost w r n name r.base l
found_first w r name n uris l none there (same, last) =
    (n, same ∙ ap (λ xs. from_here r (r.base, n) (in_scope w name xs)) none, there, λ means. means, ap (λ (x : List ℕ × Named). x.0) (last ∙ ap (λ xs. outermost (r.base, n) (flat_map entry_of (in_scope w name xs))) none))

-- ---- a scope by its last URI

ends_with : {X : Type 0} (y : X) (ys : List X) (x : X) → last_or (Some y) ys ≡ Some x → (front : List X) × (y ∷ ys ≡ front ++ x ∷ [])
ends_with y [] x is = (let same : y ≡ x = cc in ([], ap (λ z. z ∷ []) same))
ends_with y (z ∷ ys) x is = (let (front, whole) = ends_with z ys x is in (y ∷ front, ap (λ zs. y ∷ zs) whole))

split_last : {X : Type 0} (xs : List X) (x : X) → last_or None xs ≡ Some x → (front : List X) × (xs ≡ front ++ x ∷ [])
split_last [] x is = cc
split_last (y ∷ ys) x is = ends_with y ys x is

some_last : {X : Type 0} (y : X) (ys : List X) → last_or (Some y) ys ≡ None → ⊥
some_last y [] is = cc
some_last y (z ∷ ys) is = some_last z ys is

no_last : {X : Type 0} (xs : List X) → last_or None xs ≡ None → xs ≡ []
no_last [] is = refl
no_last (y ∷ ys) is = absurd (some_last y ys is)

-- where the last one has a dynamic entry, it is the outermost
pub found_at_end : (w : World) (r : Resolver) (name : List ℕ) (n : Named) (uri : List ℕ) (l : Located) → IsPlain name → last_or None r.scope ≡ Some uri
    → (d : Named) × (dynamic_under w uri name ≡ Ok ((uri, d) ∷ [])) × IsLocated l d.place → IsOutermost w r n name uri l
found_at_end w r name n uri l plain last is =
    let (front, whole) = split_last r.scope uri last in
    found_last w r name n front uri l plain is (all_left w r name n (front ++ uri ∷ []) (sym whole))

-- and where there is none, what was found first is
pub found_nowhere : (w : World) (r : Resolver) (name : List ℕ) (n : Named) (l : Located) → last_or None r.scope ≡ None → IsLocated l n.place → IsOutermost w r n name r.base l
found_nowhere w r name n l none there = found_first w r name n r.scope l (no_last r.scope none) there (all_left w r name n r.scope refl)

-- ---- a list of lent URIs, from its end

abbrev now_of : Bor (List ℕ) → List ℕ
now_of u = u.now

lent_at_end : (lent front : List (Bor (List ℕ))) (u : Bor (List ℕ)) → lent ≡ front ++ u ∷ [] → map now_of lent ≡ map now_of front ++ u.now ∷ []
lent_at_end lent front u is = ap (map now_of) is ∙ map-append now_of front (u ∷ [])

-- those before one that has no dynamic entry
pub left_popped : (w : World) (r : Resolver) (name : List ℕ) (n : Named) (lent front : List (Bor (List ℕ))) (popped : Option (Bor (List ℕ))) → lent ≡ front ++ option_to_list popped
    → IfSome popped (λ u. dynamic_under w u.now name ≡ Ok []) → IsLeft w r name n (map now_of lent) → IsLeft w r name n (map now_of front)
left_popped w r name n lent front None is none left = subst (λ us. IsLeft w r name n (map now_of us)) (is ∙ append-nil front) left
left_popped w r name n lent front (Some u) is none left = left_before w r name n (map now_of front) u.now none (subst (IsLeft w r name n) (lent_at_end lent front u is) left)

-- one that has a dynamic entry
pub found_popped : (w : World) (r : Resolver) (name : List ℕ) (n : Named) (lent front : List (Bor (List ℕ))) (u : Bor (List ℕ)) (l : Located) → lent ≡ front ++ u ∷ [] → IsPlain name
    → (d : Named) × (dynamic_under w u.now name ≡ Ok ((u.now, d) ∷ [])) × IsLocated l d.place → IsLeft w r name n (map now_of lent) → IsOutermost w r n name u.now l
found_popped w r name n lent front u l is plain there left = found_last w r name n (map now_of front) u.now l plain there (subst (IsLeft w r name n) (lent_at_end lent front u is) left)
