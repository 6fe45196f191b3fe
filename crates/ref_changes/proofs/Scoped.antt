-- What a reference leads to by a scope, by what its name leads to from each URI of the scope.
use Rattle.std.proofs.Common.{◌≡◌, ℕ, Bool, true, false, ◌&&◌, ◌||◌, not, cond, eqb, ◌==◌, List, [], ◌∷◌, ◌++◌, map, flat_map, filter, length, codes, is_some, true≢false, Option, Some, None, option_map, option_and_then, Result, Ok, Err, bytes_eq, refl, sym, ap, subst, ◌∙◌, append-nil}
use Rattle.std.specs.List.{last_or, list_any, AllByRecursion}
use Rattle.std.specs.Option.{unwrap_or, ok_or, option_or}
use Rattle.std.specs.Result.{result_ok}
use Rattle.std.proofs.lemmas.Slice.Eq.{bytes_eq-Decides}
use Rattle.serde_json.specs.Data.{Data}
use Rattle.ref_draft.specs.declared.draft.Draft.{Draft}
use Rattle.ref_draft.specs.Anchors.{Kind, Plain, Dynamic}
use Rattle.ref_draft.specs.Schema.{identifier}
use Rattle.ref_parts.specs.Pointer.{slash}
use Rattle.ref_uri.specs.Targets.{Refusal, target, fragment_part}
use Rattle.ref_definitions.specs.Results.{◌>>=◌}
use Rattle.ref_definitions.specs.World.{World}
use Rattle.ref_definitions.specs.Places.{Place, base_within}
use Rattle.ref_definitions.specs.Resources.{meant_place}
use Rattle.ref_definitions.specs.Anchors.{Named, anchor, named_entry, named_by_identifier, not_named}
use Rattle.ref_definitions.specs.Fault.{Fault, InvalidUri, InvalidAnchor, NoSuchAnchor, as_invalid_uri}
use Rattle.ref_definitions.specs.Lookup.{Resolver, Found, lookup, moved_resolver, at_fragment, named_found, in_subresource, is_dynamic, in_scope, fault_of, entry_of, entry_found, outermost, by_scope, unless_fault}
use Rattle.ref_index.specs.Spots.{Spot}
use Rattle.ref_resolver.specs.Locations.{lookup_location, anchor_spot, naming_uri}
use Rattle.ref_resolver.proofs.Lookups.{lookup_present}
use Rattle.ref_resolver.proofs.Faults.{ends, goes_on}
use Rattle.ref_resolver.proofs.Fragments.{dynamic_scope, plain_there}
use Rattle.ref_resolver.proofs.Spotting.{located_at, plainly, naming_scope}
use Rattle.ref_resolver.proofs.Naming.{anchor_has}
use Rattle.ref_changes.specs.Answers.{Answer, Leads, Fails, Led, fault_name, answer_by, answer_from, answer, has_dynamic, has_dynamic_anchor, dynamic_in, dynamic_name, name_of, named}
use Rattle.ref_changes.proofs.Blocks.{seen_kind}
use Rattle.ref_changes.proofs.Answering.{from, found, led_alike, fails, leads, IsFree, IsDynamic, Use, free, dynamic, use_of, at_name, at_name_spot, pointer_name, seen, none_failing}

-- ---- what is chosen among answers

-- what a name leads to from a URI
abbrev pub name_answer : World → List ℕ → List ℕ → Answer
name_answer w name uri = answer w uri (named name)

-- whether an answer is a fault of this name
abbrev pub is_fault : List ℕ → Answer → Bool
is_fault fault (Leads led) = false
is_fault fault (Fails name) = bytes_eq name fault

-- whether it ends all, and whether it is taken in place of those before it
abbrev pub is_unfit : Answer → Bool
is_unfit a = is_fault (codes "InvalidAnchor") a

abbrev pub picks : List ℕ → Answer → Bool
picks name a = has_dynamic name a || is_fault (codes "InvalidUri") a

abbrev pub last_pick : List ℕ → Answer → List Answer → Answer
last_pick name first [] = first
last_pick name first (a ∷ more) = last_pick name (cond (picks name a) a first) more

abbrev pub choose : List ℕ → Answer → List Answer → Answer
choose name first more = cond (list_any is_unfit more) (Fails (codes "InvalidAnchor")) (last_pick name first more)

-- ---- an entry that a name means

abbrev of_entry : World → List ℕ → List ℕ × Named → Answer
of_entry w name e = answer_by (anchor_spot w e.0 name) (entry_found (from e.0 []) e)

-- by where its identifier leads
abbrev entered_as : Option (ℕ × Spot) → Named → List (List ℕ) → Result (List ℕ) Refusal → Answer
entered_as at n scope base =
    answer_by at (as_invalid_uri (base >>= λ b. Ok (from b scope)) >>= λ r. Ok (record { value = n.place.value; draft = n.place.draft; resolver = r }))

entry_by : (at : Option (ℕ × Spot)) (n : Named) (s t : List (List ℕ)) (base : Result (List ℕ) Refusal) → entered_as at n s base ≡ entered_as at n t base
entry_by at n s t (Ok base) = led_alike at n.place.value n.place.draft base s t
entry_by at n s t (Err refusal) = refl

entry_alike : (at : Option (ℕ × Spot)) (r : Resolver) (e : List ℕ × Named) → answer_by at (entry_found r e) ≡ answer_by at (entry_found (from e.0 []) e)
entry_alike at r (uri, n) = entry_by at n r.scope [] (base_within uri (identifier n.place.draft n.place.value))

is_same_text : (text : List ℕ) → bytes_eq text text ≡ true
is_same_text text = (bytes_eq-Decides text text).1 refl

picked_by : (at : Option (ℕ × Spot)) (name : List ℕ) (n : Named) (base : Result (List ℕ) Refusal) → has_dynamic_anchor name n.place.draft n.place.value ≡ true → picks name (entered_as at n [] base) ≡ true
picked_by at name n (Ok base) seen = ap (λ b. b || false) seen
picked_by at name n (Err refusal) seen = is_same_text (codes "InvalidUri")

-- that of a dynamic anchor is taken
entry_picked : (w : World) (name uri : List ℕ) (n : Named) → anchor w uri name ≡ Ok n → n.kind ≡ Dynamic → picks name (of_entry w name (uri, n)) ≡ true
entry_picked w name uri n names kind =
    picked_by (anchor_spot w uri name) name n (base_within uri (identifier n.place.draft n.place.value)) (seen_kind w uri name n names ∙ ap is_dynamic kind)

fit_by : (at : Option (ℕ × Spot)) (n : Named) (base : Result (List ℕ) Refusal) → is_unfit (entered_as at n [] base) ≡ false
fit_by at n (Ok base) = refl
fit_by at n (Err refusal) = refl

-- ---- a look-up of a name

not_slash : (c : ℕ) (rest : List ℕ) → name_of (c ∷ rest) ≡ Some (c ∷ rest) → eqb c 47 ≡ false
not_slash c rest is = by_slash (eqb c 47) refl
  where
    by_slash : (b : Bool) → eqb c 47 ≡ b → eqb c 47 ≡ false
    by_slash false e = e
    by_slash true e = absurd (let none : None ≡ Some (c ∷ rest) = sym (pointer_name c rest e) ∙ is in cc)

name_lookup : (w : World) (r : Resolver) (text uri name : List ℕ) (p : Place) → target r.base text ≡ Ok uri → meant_place w uri ≡ Some p → fragment_part text ≡ name → name_of name ≡ Some name
    → lookup w r text ≡ (anchor w uri name >>= λ n. named_found w (moved_resolver r uri) n n.kind)
name_lookup w r text uri [] p to means part is_name = cc
name_lookup w r text uri (c ∷ rest) p to means part is_name =
    let m = moved_resolver r uri in
    lookup_present w r text uri p to means ∙ ap (at_fragment w m p) part ∙ at_name w m p c rest (not_slash c rest is_name)

name_location : (w : World) (r : Resolver) (text uri name : List ℕ) → target r.base text ≡ Ok uri → fragment_part text ≡ name → name_of name ≡ Some name
    → lookup_location w r text ≡ option_and_then (λ n. anchor_spot w (naming_uri w (moved_resolver r uri) n n.kind) name) (result_ok (anchor w uri name))
name_location w r text uri [] to part is_name = cc
name_location w r text uri (c ∷ rest) to part is_name =
    located_at w r text uri (c ∷ rest) to part ∙ at_name_spot w (moved_resolver r uri) c rest (not_slash c rest is_name)

-- the entry that is outermost
abbrev outer : World → List ℕ → List ℕ × Named → List (List ℕ) → List ℕ × Named
outer w name first scope = outermost first (flat_map entry_of (in_scope w name scope))

dynamic_lookup : (w : World) (r : Resolver) (text uri name : List ℕ) (p : Place) (n : Named) → target r.base text ≡ Ok uri → meant_place w uri ≡ Some p → fragment_part text ≡ name → name_of name ≡ Some name
    → anchor w uri name ≡ Ok n → n.kind ≡ Dynamic
    → lookup w r text ≡ by_scope (moved_resolver r uri) n (in_scope w name (moved_resolver r uri).scope)
dynamic_lookup w r text uri name p n to means part is_name names kind =
    let m = moved_resolver r uri in
    name_lookup w r text uri name p to means part is_name
    ∙ goes_on (anchor w uri name) (λ x. named_found w m x x.kind) n names ∙ dynamic_scope w m n name (anchor_has w uri name n (ap result_ok names)) kind

dynamic_location : (w : World) (r : Resolver) (text uri name : List ℕ) (n : Named) → target r.base text ≡ Ok uri → fragment_part text ≡ name → name_of name ≡ Some name
    → anchor w uri name ≡ Ok n → n.kind ≡ Dynamic
    → lookup_location w r text ≡ anchor_spot w (outer w name (uri, n) (moved_resolver r uri).scope).0 name
dynamic_location w r text uri name n to part is_name names kind =
    let m = moved_resolver r uri in
    name_location w r text uri name to part is_name
    ∙ ap (λ a. option_and_then (λ x. anchor_spot w (naming_uri w m x x.kind) name) (result_ok a)) names
    ∙ ap (λ u. anchor_spot w u name) (naming_scope w m n name (anchor_has w uri name n (ap result_ok names)) kind)

-- ---- what a name leads to from one URI

abbrev pub IsMeant : World → List ℕ → Type 0
IsMeant w uri = (p : Place) × (meant_place w uri ≡ Some p)

none_named : (w : World) (name uri : List ℕ) (f : Fault) → IsMeant w uri → name_of name ≡ Some name → anchor w uri name ≡ Err f → name_answer w name uri ≡ Fails (fault_name f)
none_named w name uri f (p, means) is_name names =
    fails w (from uri []) (named name) f
    (name_lookup w (from uri []) (named name) uri name p refl means refl is_name ∙ ends (anchor w uri name) (λ n. named_found w (moved_resolver (from uri []) uri) n n.kind) f names)

plain_named : (w : World) (name uri : List ℕ) (n : Named) → IsMeant w uri → name_of name ≡ Some name → anchor w uri name ≡ Ok n → n.kind ≡ Plain
    → name_answer w name uri ≡ answer_by (anchor_spot w uri name) (Ok (found n.place.value n.place.draft uri (uri ∷ [])))
plain_named w name uri n (p, means) is_name names kind =
    let m = moved_resolver (from uri []) uri in
    leads w (from uri []) (named name) (anchor_spot w uri name) (Ok (found n.place.value n.place.draft uri (uri ∷ [])))
    (name_lookup w (from uri []) (named name) uri name p refl means refl is_name ∙ goes_on (anchor w uri name) (λ x. named_found w m x x.kind) n names ∙ plain_there w m n kind)
    (name_location w (from uri []) (named name) uri name refl refl is_name
    ∙ ap (λ a. option_and_then (λ x. anchor_spot w (naming_uri w m x x.kind) name) (result_ok a)) names
    ∙ ap (λ u. anchor_spot w u name) (plainly w m n kind))

one_outer : (b : Bool) (e : List ℕ × Named) → unwrap_or (last_or None (cond b (e ∷ []) [])) e ≡ e
one_outer true e = refl
one_outer false e = refl

dynamic_named : (w : World) (name uri : List ℕ) (n : Named) → IsMeant w uri → name_of name ≡ Some name → anchor w uri name ≡ Ok n → n.kind ≡ Dynamic
    → name_answer w name uri ≡ of_entry w name (uri, n)
dynamic_named w name uri n (p, means) is_name names kind =
    let r = from uri [] in
    let m = moved_resolver r uri in
    let e : List ℕ × Named = (uri, n) in
    let alone : outer w name e (uri ∷ []) ≡ e = ap (λ a. outermost e (entry_of (uri, a) ++ [])) names ∙ one_outer (is_dynamic n.kind) e in
    leads w r (named name) (anchor_spot w uri name) (entry_found m e)
    (dynamic_lookup w r (named name) uri name p n refl means refl is_name names kind
    ∙ ap (λ a. unless_fault (fault_of (uri, a) ++ []) (entry_found m (outermost e (entry_of (uri, a) ++ [])))) names ∙ ap (entry_found m) (one_outer (is_dynamic n.kind) e))
    (dynamic_location w r (named name) uri name n refl refl is_name names kind ∙ ap (λ (x : List ℕ × Named). anchor_spot w x.0 name) alone)
    ∙ entry_alike (anchor_spot w uri name) m e

-- the fault of a name that nothing has
absent_fault : (o : Option Named) (fault f : Fault) → ok_or o fault ≡ Err f → fault ≡ f
absent_fault None fault f is = cc
absent_fault (Some n) fault f is = cc

no_name : (w : World) (name uri : List ℕ) (f : Fault) → anchor w uri name ≡ Err f → not_named name ≡ f
unfolding anchor
no_name w name uri f is = absent_fault (option_or (named_entry w uri name) (named_by_identifier w uri name)) (not_named name) f is

-- ---- along a scope

last_from : {X : Type 0} (x d : X) (xs : List X) → unwrap_or (last_or (Some x) xs) d ≡ unwrap_or (last_or None xs) x
last_from x d [] = refl
last_from x d (y ∷ xs) = last_from y d xs ∙ sym (last_from y x xs)

abbrev AllMeant : World → List (List ℕ) → Type 0
AllMeant w scope = AllByRecursion (IsMeant w) scope

-- the answer of the one that is outermost
outer_is : (w : World) (name : List ℕ) (scope : List (List ℕ)) (e : List ℕ × Named) → name_of name ≡ Some name → AllMeant w scope
    → of_entry w name (outer w name e scope) ≡ last_pick name (of_entry w name e) (map (name_answer w name) scope)
outer_is w name [] e is_name all = refl
outer_is w name (u ∷ scope) e is_name all = by_meaning (anchor w u name) refl (λ x. outer_is w name scope x is_name all.1)
  where
    rest : List (List ℕ × Named)
    rest = flat_map entry_of (in_scope w name scope)

    answers : List Answer
    answers = map (name_answer w name) scope

    taken : (a : Answer) (b : Bool) → name_answer w name u ≡ a → picks name a ≡ b
        → last_pick name (cond b a (of_entry w name e)) answers ≡ last_pick name (of_entry w name e) (map (name_answer w name) (u ∷ scope))
    taken a b is picked =
        sym (ap (λ x. last_pick name (cond (picks name x) x (of_entry w name e)) answers) is ∙ ap (λ x. last_pick name (cond x a (of_entry w name e)) answers) picked)

    by_meaning : (meaning : Result Named Fault) → anchor w u name ≡ meaning → ((x : List ℕ × Named) → of_entry w name (outer w name x scope) ≡ last_pick name (of_entry w name x) answers)
        → of_entry w name (outer w name e (u ∷ scope)) ≡ last_pick name (of_entry w name e) (map (name_answer w name) (u ∷ scope))
    by_meaning (Err f) names later =
        ap (λ a. of_entry w name (outermost e (entry_of (u, a) ++ rest))) names ∙ later e
        ∙ taken (Fails (fault_name f)) false (none_named w name u f all.0 is_name names) (unpicked f (no_name w name u f names))
      where
        unpicked : (f : Fault) → not_named name ≡ f → picks name (Fails (fault_name f)) ≡ false
        unpicked f is = ap (λ x. picks name (Fails (fault_name x))) (sym is) ∙ by_slash (list_any (λ c. c == slash) name)
          where
            by_slash : (b : Bool) → picks name (Fails (fault_name (cond b (InvalidAnchor name) (NoSuchAnchor name)))) ≡ false
            by_slash true = refl
            by_slash false = refl
    by_meaning (Ok n) names later = by_kind n.kind refl
      where
        by_kind : (k : Kind) → n.kind ≡ k → of_entry w name (outer w name e (u ∷ scope)) ≡ last_pick name (of_entry w name e) (map (name_answer w name) (u ∷ scope))
        by_kind Plain kind =
            let a = answer_by (anchor_spot w u name) (Ok (found n.place.value n.place.draft u (u ∷ []))) in
            ap (λ x. of_entry w name (outermost e (entry_of (u, x) ++ rest))) names
            ∙ ap (λ k. of_entry w name (unwrap_or (last_or None (cond (is_dynamic k) ((u, n) ∷ filter (λ x. is_dynamic x.1.kind) rest) (filter (λ x. is_dynamic x.1.kind) rest))) e)) kind
            ∙ later e
            ∙ taken a false (plain_named w name u n all.0 is_name names kind) (ap (λ b. b || false) (seen_kind w u name n names ∙ ap is_dynamic kind))
        by_kind Dynamic kind =
            ap (λ x. of_entry w name (outermost e (entry_of (u, x) ++ rest))) names
            ∙ ap (λ k. of_entry w name (unwrap_or (last_or None (cond (is_dynamic k) ((u, n) ∷ filter (λ x. is_dynamic x.1.kind) rest) (filter (λ x. is_dynamic x.1.kind) rest))) e)) kind
            ∙ ap (of_entry w name) (last_from (u, n) e (filter (λ x. is_dynamic x.1.kind) rest))
            ∙ later (u, n)
            ∙ taken (of_entry w name (u, n)) true (dynamic_named w name u n all.0 is_name names kind) (entry_picked w name u n names kind)

-- the faults along a scope
data Faults (w : World) (name : List ℕ) (scope : List (List ℕ)) : Type 0 where
  no_fault : flat_map fault_of (in_scope w name scope) ≡ [] → list_any is_unfit (map (name_answer w name) scope) ≡ false → Faults w name scope
  a_fault : (f : Fault) (more : List Fault) → flat_map fault_of (in_scope w name scope) ≡ f ∷ more → fault_name f ≡ codes "InvalidAnchor"
      → list_any is_unfit (map (name_answer w name) scope) ≡ true → Faults w name scope

faults_along : (w : World) (name : List ℕ) (scope : List (List ℕ)) → name_of name ≡ Some name → AllMeant w scope → Faults w name scope
faults_along w name [] is_name all = no_fault refl refl
faults_along w name (u ∷ scope) is_name all = by_meaning (anchor w u name) refl (faults_along w name scope is_name all.1)
  where
    rest : List Fault
    rest = flat_map fault_of (in_scope w name scope)

    among : Bool
    among = list_any is_unfit (map (name_answer w name) scope)

    passed : fault_of (u, anchor w u name) ≡ [] → is_unfit (name_answer w name u) ≡ false → Faults w name scope → Faults w name (u ∷ scope)
    passed none fit (no_fault is any) = no_fault (ap (λ l. l ++ rest) none ∙ is) (ap (λ b. b || among) fit ∙ any)
    passed none fit (a_fault f more is named any) = a_fault f more (ap (λ l. l ++ rest) none ∙ is) named (ap (λ b. b || among) fit ∙ any)

    by_meaning : (meaning : Result Named Fault) → anchor w u name ≡ meaning → Faults w name scope → Faults w name (u ∷ scope)
    by_meaning (Ok n) names later = passed (ap (λ a. fault_of (u, a)) names) (by_kind n.kind refl) later
      where
        by_kind : (k : Kind) → n.kind ≡ k → is_unfit (name_answer w name u) ≡ false
        by_kind Plain kind = ap is_unfit (plain_named w name u n all.0 is_name names kind)
        by_kind Dynamic kind = ap is_unfit (dynamic_named w name u n all.0 is_name names kind) ∙ fit_by (anchor_spot w u name) n (base_within u (identifier n.place.draft n.place.value))
    by_meaning (Err f) names later = by_slash (list_any (λ c. c == slash) name) refl
      where
        by_slash : (b : Bool) → list_any (λ c. c == slash) name ≡ b → Faults w name (u ∷ scope)
        by_slash true slashed =
            let is : InvalidAnchor name ≡ f = sym (ap (λ b. cond b (InvalidAnchor name) (NoSuchAnchor name)) slashed) ∙ no_name w name u f names in
            a_fault (InvalidAnchor name) rest (ap (λ a. fault_of (u, a) ++ rest) (names ∙ ap (λ x. Err x) (sym is))) refl
            (ap (λ a. is_unfit a || among) (none_named w name u f all.0 is_name names ∙ ap (λ x. Fails (fault_name x)) (sym is)))
        by_slash false plain =
            let is : NoSuchAnchor name ≡ f = sym (ap (λ b. cond b (InvalidAnchor name) (NoSuchAnchor name)) plain) ∙ no_name w name u f names in
            passed (ap (λ a. fault_of (u, a)) (names ∙ ap (λ x. Err x) (sym is)))
            (ap is_unfit (none_named w name u f all.0 is_name names ∙ ap (λ x. Fails (fault_name x)) (sym is))) later

-- ---- a reference to a dynamic anchor

abbrev scope_at : List ℕ → List ℕ → List (List ℕ) → List (List ℕ)
scope_at base uri scope = (moved_resolver (from base scope) uri).scope

by_answers : (w : World) (base text name : List ℕ) (scope : List (List ℕ)) (d : IsDynamic w base text name) → AllMeant w (scope_at base d.uri scope)
    → answer_from w (from base scope) text ≡ choose name (of_entry w name (d.uri, d.entry)) (map (name_answer w name) (scope_at base d.uri scope))
by_answers w base text name scope d all = by_faults (faults_along w name along d.is_name all)
  where
    r : Resolver
    r = from base scope

    m : Resolver
    m = moved_resolver r d.uri

    along : List (List ℕ)
    along = scope_at base d.uri scope

    first : List ℕ × Named
    first = (d.uri, d.entry)

    e : List ℕ × Named
    e = outer w name first along

    by_faults : Faults w name along → answer_from w (from base scope) text ≡ choose name (of_entry w name first) (map (name_answer w name) along)
    by_faults (no_fault none any) =
        leads w r text (anchor_spot w e.0 name) (entry_found m e)
        (dynamic_lookup w r text d.uri name d.place d.entry d.to d.means d.fragment d.is_name d.names d.kind ∙ ap (λ l. unless_fault l (entry_found m e)) none)
        (dynamic_location w r text d.uri name d.entry d.to d.fragment d.is_name d.names d.kind)
        ∙ entry_alike (anchor_spot w e.0 name) m e ∙ outer_is w name along first d.is_name all
        ∙ sym (ap (λ b. cond b (Fails (codes "InvalidAnchor")) (last_pick name (of_entry w name first) (map (name_answer w name) along))) any)
    by_faults (a_fault f more some named any) =
        fails w r text f
        (dynamic_lookup w r text d.uri name d.place d.entry d.to d.means d.fragment d.is_name d.names d.kind ∙ ap (λ l. unless_fault l (entry_found m e)) some)
        ∙ ap Fails named
        ∙ sym (ap (λ b. cond b (Fails (codes "InvalidAnchor")) (last_pick name (of_entry w name first) (map (name_answer w name) along))) any)

-- ---- the one or the other, by a scope

-- A reference leads by a scope to what it leads to without one, and to no dynamic anchor; or to what is chosen among what the name of
-- its dynamic anchor leads to from each URI of the scope.
pub data ByScope (w : World) (base text : List ℕ) (scope : List (List ℕ)) : Type 0 where
  same : answer_from w (from base scope) text ≡ answer w base text → dynamic_name text (answer w base text) ≡ None → ByScope w base text scope
  chosen : (name : List ℕ) → dynamic_name text (answer w base text) ≡ Some name
      → answer_from w (from base scope) text ≡ choose name (answer w base text) (map (name_answer w name) scope) → ByScope w base text scope

or_none : (b : Bool) → (b || false) ≡ b
or_none true = refl
or_none false = refl

named_seen : (name : List ℕ) (a : Answer) → picks name a ≡ true → is_fault (codes "InvalidUri") a ≡ false → has_dynamic name a ≡ true
named_seen name (Leads led) picked fit = sym (or_none (has_dynamic name (Leads led))) ∙ picked
named_seen name (Fails fault) picked fit = absurd (true≢false (sym picked ∙ fit))

one_picked : (name : List ℕ) (a first : Answer) (b : Bool) → picks name a ≡ b → picks name first ≡ true → picks name (cond b a first) ≡ true
one_picked name a first true is first_is = is
one_picked name a first false is first_is = first_is

both_same : (b : Bool) (a first : Answer) → a ≡ first → cond b a first ≡ first
both_same true a first is = is
both_same false a first is = refl

not_moved : (a b : Bool) → (a || not b) ≡ false → b ≡ true
not_moved true b is = cc
not_moved false true is = refl
not_moved false false is = cc

chosen_by : (w : World) (base text name : List ℕ) (scope : List (List ℕ)) → IsDynamic w base text name → IsMeant w base → AllByRecursion (IsMeant w) scope
    → is_fault (codes "InvalidUri") (answer w base text) ≡ false → ByScope w base text scope
chosen_by w base text name scope d meant all fit = by_test ((length scope == 0) || not (bytes_eq d.uri base)) refl
  where
    first : Answer
    first = of_entry w name (d.uri, d.entry)

    here : Answer
    here = name_answer w name base

    answers : List Answer
    answers = map (name_answer w name) scope

    empty : answer w base text ≡ choose name first (here ∷ [])
    empty = by_answers w base text name [] d (meant, tt)

    along : (t : Bool) → ((length scope == 0) || not (bytes_eq d.uri base)) ≡ t → scope_at base d.uri scope ≡ cond t (base ∷ scope) scope
    along t is = ap (λ b. cond b (base ∷ scope) scope) is

    failing : is_unfit here ≡ true → answer w base text ≡ Fails (codes "InvalidAnchor")
    failing unfit = empty ∙ ap (λ b. cond (b || false) (Fails (codes "InvalidAnchor")) (last_pick name first (here ∷ []))) unfit

    leading : is_unfit here ≡ false → answer w base text ≡ cond (picks name here) here first
    leading unfit = empty ∙ ap (λ b. cond (b || false) (Fails (codes "InvalidAnchor")) (last_pick name first (here ∷ []))) unfit

    dynamic_is : is_unfit here ≡ false → dynamic_name text (answer w base text) ≡ Some name
    dynamic_is unfit =
        let a = answer w base text in
        let picked : picks name a ≡ true =
        ap (picks name) (leading unfit) ∙ one_picked name here first (picks name here) refl (entry_picked w name d.uri d.entry d.names d.kind) in
        ap (λ f. dynamic_in a (name_of f)) d.fragment ∙ ap (dynamic_in a) d.is_name ∙ seen name a (named_seen name a picked fit)

    -- the base goes before the scope
    moved : answer_from w (from base scope) text ≡ choose name first (here ∷ answers) → ByScope w base text scope
    moved is = by_unfit (is_unfit here) refl
      where
        by_unfit : (b : Bool) → is_unfit here ≡ b → ByScope w base text scope
        by_unfit true unfit =
            same (is ∙ ap (λ b. cond (b || list_any is_unfit answers) (Fails (codes "InvalidAnchor")) (last_pick name first (here ∷ answers))) unfit ∙ sym (failing unfit))
            (ap (λ a. dynamic_name text a) (failing unfit) ∙ none_failing (codes "InvalidAnchor") (name_of (fragment_part text)))
        by_unfit false unfit =
            chosen name (dynamic_is unfit)
            (is ∙ ap (λ b. cond (b || list_any is_unfit answers) (Fails (codes "InvalidAnchor")) (last_pick name first (here ∷ answers))) unfit
            ∙ ap (λ a. choose name a answers) (sym (leading unfit)))

    -- the base stays
    stayed : d.uri ≡ base → answer_from w (from base scope) text ≡ choose name first answers → ByScope w base text scope
    stayed is_base is =
        let names : anchor w base name ≡ Ok d.entry = ap (λ u. anchor w u name) (sym is_base) ∙ d.names in
        let there : here ≡ of_entry w name (base, d.entry) = dynamic_named w name base d.entry meant d.is_name names d.kind in
        let the_first : here ≡ first = there ∙ ap (λ u. of_entry w name (u, d.entry)) (sym is_base) in
        let unfit : is_unfit here ≡ false = ap is_unfit there ∙ fit_by (anchor_spot w base name) d.entry (base_within base (identifier d.entry.place.draft d.entry.place.value)) in
        chosen name (dynamic_is unfit)
        (is ∙ ap (λ a. choose name a answers) (sym (leading unfit ∙ both_same (picks name here) here first the_first)))

    by_test : (t : Bool) → ((length scope == 0) || not (bytes_eq d.uri base)) ≡ t → ByScope w base text scope
    by_test true is =
        moved
        (by_answers w base text name scope d (subst (AllByRecursion (IsMeant w)) (sym (along true is)) (meant, all))
        ∙ ap (λ l. choose name first (map (name_answer w name) l)) (along true is))
    by_test false is =
        stayed ((bytes_eq-Decides d.uri base).0 (not_moved (length scope == 0) (bytes_eq d.uri base) is))
        (by_answers w base text name scope d (subst (AllByRecursion (IsMeant w)) (sym (along false is)) all)
        ∙ ap (λ l. choose name first (map (name_answer w name) l)) (along false is))

pub by_scope_of : (w : World) (base text : List ℕ) (scope : List (List ℕ)) → IsMeant w base → AllByRecursion (IsMeant w) scope
    → is_fault (codes "InvalidUri") (answer w base text) ≡ false → ByScope w base text scope
by_scope_of w base text scope meant all fit = by_use (use_of w base text)
  where
    by_use : Use w base text → ByScope w base text scope
    by_use (free f) = same (f.alike scope) f.plain
    by_use (dynamic name d) = chosen_by w base text name scope d meant all fit
