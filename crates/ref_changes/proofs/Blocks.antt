-- Whether what a name means is a dynamic anchor is seen at the value: the last of its anchors with that name.
use Rattle.std.proofs.Common.{◌≡◌, ℕ, Bool, true, false, ◌&&◌, ◌||◌, cond, List, [], ◌∷◌, ◌++◌, map, flat_map, filter, codes, Option, Some, None, option_map, option_and_then, Result, Ok, Err, bytes_eq, ◌⊎◌, inl, inr, refl, sym, ap, subst, ◌∙◌}
use Rattle.std.specs.List.{last_or, list_any}
use Rattle.std.specs.Option.{option_or, option_map_or, option_to_list, ok_or}
use Rattle.std.specs.Result.{result_ok}
use Rattle.std.proofs.lemmas.Bool.{and_parts}
use Rattle.serde_json.specs.Data.{Data}
use Rattle.ref_draft.specs.declared.draft.Draft.{Draft}
use Rattle.ref_draft.specs.declared.draft.Draft.TheVariants.{Draft4, Draft6, Draft7, Draft201909, Draft202012, Unknown}
use Rattle.ref_draft.specs.Anchors.{Kind, Plain, Dynamic, after_hash, anchors}
use Rattle.ref_draft.specs.Keywords.{id_keyword}
use Rattle.ref_draft.specs.Schema.{text_under}
use Rattle.ref_definitions.specs.World.{Document, Layer, World}
use Rattle.ref_definitions.specs.Places.{Place, root, places}
use Rattle.ref_definitions.specs.Resources.{own_uri, meant_place}
use Rattle.ref_definitions.specs.Anchors.{Named, named_under, named_at, names_in, names, last_named, named_entry, named_by_identifier, not_named, anchor}
use Rattle.ref_definitions.specs.Fault.{Fault}
use Rattle.ref_definitions.specs.Lookup.{is_dynamic}
use Rattle.ref_definitions.proofs.Last.{last_named_both}
use Rattle.ref_changes.specs.Answers.{has_dynamic_anchor}

-- ---- what is the last of all is the last of one place

-- it holds of the last under a URI and a name of those of any place
abbrev OfEachPlace : (Named → Type 0) → List ℕ → Type 0
OfEachPlace P name = (uri under : List ℕ) (p : Place) (n : Named) → last_named uri name (named_under under p) ≡ Some n → P n

either : (P : Named → Type 0) (o p : Option Named) (n : Named) → (o ≡ Some n → P n) → (p ≡ Some n → P n) → option_or o p ≡ Some n → P n
either P None p n near far is = far is
either P (Some m) p n near far is = near is

of_joined : {X : Type 0} (P : Named → Type 0) (f : X → List Named) (uri name : List ℕ) (xs : List X) (n : Named) → ((x : X) → last_named uri name (f x) ≡ Some n → P n)
    → last_named uri name (flat_map f xs) ≡ Some n → P n
of_joined P f uri name [] n each is = cc
of_joined P f uri name (x ∷ xs) n each is =
    either P (last_named uri name (flat_map f xs)) (last_named uri name (f x)) n (of_joined P f uri name xs n each) (each x) (sym (last_named_both uri name (f x) (flat_map f xs)) ∙ is)

of_based : (P : Named → Type 0) (uri name : List ℕ) (p : Place) (base : Option (List ℕ)) (n : Named) → OfEachPlace P name
    → last_named uri name (option_map_or (λ b. named_under b p) base []) ≡ Some n → P n
of_based P uri name p None n each is = cc
of_based P uri name p (Some base) n each is = each uri base p n is

of_document : (P : Named → Type 0) (uri name : List ℕ) (d : Document) (n : Named) → OfEachPlace P name → last_named uri name (names_in d) ≡ Some n → P n
of_document P uri name d n each is =
    either P (last_named uri name (flat_map named_at (places d))) (last_named uri name (named_under d.uri (root d))) n
    (of_joined P named_at uri name (places d) n (λ p. of_based P uri name p (result_ok p.base) n each))
    (each uri d.uri (root d) n)
    (sym (last_named_both uri name (named_under d.uri (root d)) (flat_map named_at (places d))) ∙ is)

of_entry : (P : Named → Type 0) (world : World) (uri name : List ℕ) (n : Named) → OfEachPlace P name → named_entry world uri name ≡ Some n → P n
of_entry P [] uri name n each is = cc
of_entry P (layer ∷ world) uri name n each is =
    either P (last_named uri name (names layer)) (named_entry world uri name) n
    (of_joined P names_in uri name layer n (λ d. of_document P uri name d n each))
    (of_entry P world uri name n each) is

under_own : (P : Named → Type 0) (world : World) (own : Option (List ℕ)) (name : List ℕ) (n : Named) → OfEachPlace P name → option_and_then (λ u. named_entry world u name) own ≡ Some n → P n
under_own P world None name n each is = cc
under_own P world (Some own) name n each is = of_entry P world own name n each is

there : (o : Option Named) (fault : Fault) (n : Named) → ok_or o fault ≡ Ok n → o ≡ Some n
there None fault n is = cc
there (Some m) fault n is = cc

-- so it holds of what a name means
pub of_anchor : (P : Named → Type 0) (world : World) (uri name : List ℕ) (n : Named) → OfEachPlace P name → anchor world uri name ≡ Ok n → P n
unfolding anchor
of_anchor P world uri name n each is =
    either P (named_entry world uri name) (named_by_identifier world uri name) n (of_entry P world uri name n each)
    (under_own P world (option_and_then own_uri (meant_place world uri)) name n each)
    (there (option_or (named_entry world uri name) (named_by_identifier world uri name)) (not_named name) n is)

-- ---- the last of one place

one : (b : Bool) (e n : Named) → last_or None (cond b (e ∷ []) []) ≡ Some n → e ≡ n
one true e n is = cc
one false e n is = cc

two : (b c : Bool) (e f n : Named) → last_or None (cond b (e ∷ cond c (f ∷ []) []) (cond c (f ∷ []) [])) ≡ Some n
    → ((c ≡ true) × (f ≡ n)) ⊎ ((c ≡ false) × (b ≡ true) × (e ≡ n))
two true true e f n is = inl (refl, cc)
two true false e f n is = inr (refl, refl, cc)
two false true e f n is = inl (refl, cc)
two false false e f n is = cc

-- the value of an entry has its name found a dynamic anchor just where that is the kind
abbrev pub IsSeen : List ℕ → Named → Type 0
IsSeen name n = has_dynamic_anchor name n.place.draft n.place.value ≡ is_dynamic n.kind

-- anchors found they are listed
abbrev plain : Option (List ℕ) → List (List ℕ × Kind)
plain o = option_to_list (option_map (λ name. (name, Plain)) o)

abbrev dynamic : Option (List ℕ) → List (List ℕ × Kind)
dynamic o = option_to_list (option_map (λ name. (name, Dynamic)) o)

abbrev entries : List ℕ → Place → List (List ℕ × Kind) → List Named
entries under p found = map (λ a. record { uri = under; name = a.0; kind = a.1; place = p }) found

abbrev seen_among : List ℕ → List (List ℕ × Kind) → Bool
seen_among name found = list_any (λ a. is_dynamic a.1 && bytes_eq a.0 name) found

only_plain : (uri name under : List ℕ) (p : Place) (o : Option (List ℕ)) (n : Named) → last_named uri name (entries under p (plain o)) ≡ Some n → seen_among name (plain o) ≡ is_dynamic n.kind
only_plain uri name under p None n is = cc
only_plain uri name under p (Some m) n is =
    let e : Named = record { uri = under; name = m; kind = Plain; place = p } in
    ap (λ (x : Named). is_dynamic x.kind) (one (bytes_eq under uri && bytes_eq m name) e n is)

or_nothing : (b : Bool) → (b || false) ≡ b
or_nothing true = refl
or_nothing false = refl

not_both : (b c : Bool) → b ≡ true → (b && c) ≡ false → c ≡ false
not_both true c is none = none
not_both false c is none = cc

both_kinds : (uri name under : List ℕ) (p : Place) (o q : Option (List ℕ)) (n : Named) → last_named uri name (entries under p (plain o ++ dynamic q)) ≡ Some n
    → seen_among name (plain o ++ dynamic q) ≡ is_dynamic n.kind
both_kinds uri name under p None None n is = cc
both_kinds uri name under p (Some m) None n is =
    let e : Named = record { uri = under; name = m; kind = Plain; place = p } in
    ap (λ (x : Named). is_dynamic x.kind) (one (bytes_eq under uri && bytes_eq m name) e n is)
both_kinds uri name under p None (Some k) n is =
    let f : Named = record { uri = under; name = k; kind = Dynamic; place = p } in
    dynamic_one (bytes_eq under uri) (bytes_eq k name) f refl is
  where
    dynamic_one : (b c : Bool) (f : Named) → f.kind ≡ Dynamic → last_or None (cond (b && c) (f ∷ []) []) ≡ Some n → (c || false) ≡ is_dynamic n.kind
    dynamic_one true true f kind last = sym (ap is_dynamic kind) ∙ ap (λ (x : Named). is_dynamic x.kind) (one true f n last)
    dynamic_one true false f kind last = cc
    dynamic_one false c f kind last = cc
both_kinds uri name under p (Some m) (Some k) n is =
    let e : Named = record { uri = under; name = m; kind = Plain; place = p } in
    let f : Named = record { uri = under; name = k; kind = Dynamic; place = p } in
    by_last (bytes_eq under uri) (bytes_eq m name) (bytes_eq k name) e f refl refl is
  where
    by_last : (a b c : Bool) (e f : Named) → e.kind ≡ Plain → f.kind ≡ Dynamic
        → last_or None (cond (a && b) (e ∷ cond (a && c) (f ∷ []) []) (cond (a && c) (f ∷ []) [])) ≡ Some n → (c || false) ≡ is_dynamic n.kind
    by_last true b true e f plain kind last = of_two (two b true e f n last)
      where
        of_two : ((true ≡ true) × (f ≡ n)) ⊎ ((true ≡ false) × (b ≡ true) × (e ≡ n)) → true ≡ is_dynamic n.kind
        of_two (inl found) = sym (ap is_dynamic kind) ∙ ap (λ (x : Named). is_dynamic x.kind) found.1
        of_two (inr found) = cc
    by_last true b false e f plain kind last = of_two (two b false e f n last)
      where
        of_two : ((false ≡ true) × (f ≡ n)) ⊎ ((false ≡ false) × (b ≡ true) × (e ≡ n)) → false ≡ is_dynamic n.kind
        of_two (inl found) = cc
        of_two (inr found) = sym (ap is_dynamic plain) ∙ ap (λ (x : Named). is_dynamic x.kind) found.2
    by_last false b c e f plain kind last = cc

-- the place of an entry
placed : (uri name under : List ℕ) (p : Place) (found : List (List ℕ × Kind)) (n : Named) → last_named uri name (entries under p found) ≡ Some n → n.place ≡ p
placed uri name under p found n is = from None (λ m no. cc) found is
  where
    test : Named → Bool
    test e = bytes_eq e.uri uri && bytes_eq e.name name

    step : (o : Option Named) (b : Bool) (e : Named) (l : List Named) (Q : Type 0) → (last_or (Some e) l ≡ Some n → Q) → (last_or o l ≡ Some n → Q) → last_or o (cond b (e ∷ l) l) ≡ Some n → Q
    step o true e l Q with_it without last = with_it last
    step o false e l Q with_it without last = without last

    from : (o : Option Named) → ((m : Named) → o ≡ Some m → m.place ≡ p) → (found : List (List ℕ × Kind)) → last_or o (filter test (entries under p found)) ≡ Some n → n.place ≡ p
    from o before [] last = before n last
    from o before (a ∷ found) last =
        let e : Named = record { uri = under; name = a.0; kind = a.1; place = p } in
        step o (test e) e (filter test (entries under p found)) (n.place ≡ p)
        (from (Some e) (λ m is. ap (λ (x : Named). x.place) (let same : m ≡ e = cc in same)) found)
        (from o before found) last

by_draft : (uri name under : List ℕ) (p : Place) (draft : Draft) (value : Data) (n : Named) → last_named uri name (entries under p (anchors draft value)) ≡ Some n → has_dynamic_anchor name draft value ≡ is_dynamic n.kind
by_draft uri name under p Draft4 value n is = only_plain uri name under p (option_and_then after_hash (text_under (id_keyword Draft4) value)) n is
by_draft uri name under p Draft6 value n is = only_plain uri name under p (option_and_then after_hash (text_under (id_keyword Draft6) value)) n is
by_draft uri name under p Draft7 value n is = only_plain uri name under p (option_and_then after_hash (text_under (id_keyword Draft7) value)) n is
by_draft uri name under p Draft201909 value n is = only_plain uri name under p (text_under (codes "$anchor") value) n is
by_draft uri name under p Draft202012 value n is = both_kinds uri name under p (text_under (codes "$anchor") value) (text_under (codes "$dynamicAnchor") value) n is
by_draft uri name under p Unknown value n is = both_kinds uri name under p (text_under (codes "$anchor") value) (text_under (codes "$dynamicAnchor") value) n is

-- so it is of what a name means
pub seen_kind : (world : World) (uri name : List ℕ) (n : Named) → anchor world uri name ≡ Ok n → IsSeen name n
seen_kind world uri name n is =
    of_anchor (IsSeen name) world uri name n
    (λ u under p m last.
    ap (λ (q : Place). has_dynamic_anchor name q.draft q.value) (placed u name under p (anchors p.draft p.value) m last)
    ∙ by_draft u name under p p.draft p.value m last)
    is
