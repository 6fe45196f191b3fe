-- A URI in normal form means itself against any base, what a text means against such a base is in normal form, and so are the bases of
-- the places of a document whose URI is.
use Rattle.std.proofs.Common.{◌≡◌, ℕ, Bool, true, false, ◌&&◌, List, [], ◌∷◌, get_or, eqb, cond, refl, sym, ap, ◌∙◌, inl, inr, Option, Some, None, is_some, is_none, option_map, subst, Result, Ok, Err, map, filter, bytes_eq}
use Rattle.std.specs.List.{ends_with, AllByRecursion, last_or}
use Rattle.std.specs.Char.{to_ascii_lowercase}
use Rattle.std.specs.Option.{option_or, option_to_list}
use Rattle.std.proofs.lemmas.Bool.{cases_Bool, eqb-true, and_parts, false≢true}
use Rattle.ref_uri.specs.Components.{Components, components, scheme, text_of, begins_with_slashes}
use Rattle.ref_uri.specs.DotSegments.{remove_dot_segments}
use Rattle.ref_uri.specs.Normal.{normal_text, guarded_path, normal_components, normal_form}
use Rattle.ref_uri.specs.Reference.{is_uri_reference, with_fragment}
use Rattle.ref_uri.specs.Resolution.{resolved_components, target_text}
use Rattle.ref_uri.specs.Targets.{Refusal, parse_refusal, uri_of, uri_against}
use Rattle.ref_paths.specs.Path.{Part}
use Rattle.ref_draft.specs.Children.{Walked, walked_children}
use Rattle.ref_definitions.specs.World.{Document, Layer}
use Rattle.ref_definitions.specs.Places.{Place, base_within, root, child_place, children_with, places}
use Rattle.ref_definitions.specs.Resources.{own_uri, resource_of, resources_in, resources, last_under}
use Rattle.ref_draft.specs.Schema.{identifier}
use Rattle.ref_uri.proofs.OnLiterals.{ref_uri_on_literals}
use Rattle.ref_uri.proofs.StructureLemmas.{text_of-components}
use Rattle.ref_uri.proofs.UniqueLemmas.{components-text_of}
use Rattle.ref_uri.proofs.TargetLemmas.{the_components, each_same, some_there, resolved_of_scheme}
use Rattle.ref_uri.proofs.ValidTargets.{normal_is_valid, resolved_is_valid}
use Rattle.ref_uri.proofs.NormalTwice.{guard_goes, removed_twice, normal_twice, components_of_normal}
use Rattle.ref_uri.proofs.Meanings.{parsed_with_scheme, parsed_refused, against_same, against_target, against_refused}
use Rattle.ref_uri.proofs.WrittenUri.{components_hold, normal_text_of, resolved_text_of}
use Rattle.ref_uri.proofs.FragmentLemmas.{reference-with_fragment, scheme-with_fragment}
use Rattle.ref_uri.proofs.LawLemmas.{from_components}
use Rattle.ref_index.specs.inner.NormalUris.{IsNormalUri, HasNormalUri, HaveNormalUris}
use Rattle.ref_definitions.proofs.Lists.{all_joined}
use Rattle.ref_definitions.proofs.Induction.{places_induct}

-- the guard goes with the dot segments
guard_removed : (a : Option (List ℕ)) (path : List ℕ) → remove_dot_segments (guarded_path a path) ≡ remove_dot_segments path
guard_removed a path = by_guard (is_none a && begins_with_slashes path) refl
  where
    behind : (path : List ℕ) → begins_with_slashes path ≡ true → remove_dot_segments (47 ∷ 46 ∷ path) ≡ remove_dot_segments path
    behind [] h = absurd (false≢true h)
    behind (c ∷ rest) h =
        let slash : c ≡ 47 = eqb-true c 47 (and_parts (eqb c 47) (eqb (get_or rest 0 0) 47) h).0 in
        ap (λ x. remove_dot_segments (47 ∷ 46 ∷ x ∷ rest)) slash ∙ guard_goes rest ∙ ap (λ x. remove_dot_segments (x ∷ rest)) (sym slash)

    by_guard : (b : Bool) → (is_none a && begins_with_slashes path) ≡ b → remove_dot_segments (guarded_path a path) ≡ remove_dot_segments path
    by_guard true e =
        let put : guarded_path a path ≡ 47 ∷ 46 ∷ path = rw e refl in
        ap remove_dot_segments put ∙ behind path (and_parts (is_none a) (begins_with_slashes path) e).1
    by_guard false e =
        let left : guarded_path a path ≡ path = rw e refl in
        ap remove_dot_segments left

-- what `#` begins has no scheme
hash_alone : (rest : List ℕ) → is_some (scheme (35 ∷ rest)) ≡ false
unfolding scheme ref_uri_on_literals
hash_alone rest = refl

no_hash : (text : List ℕ) → is_some (scheme text) ≡ true → eqb (get_or text 0 0) 35 ≡ false
no_hash [] h = refl
no_hash (c ∷ rest) h = elim (cases_Bool (eqb c 35)) [ inl e ↦ absurd (false≢true (sym (ap (λ x. is_some (scheme (x ∷ rest))) (eqb-true c 35 e) ∙ hash_alone rest) ∙ h)) | inr e ↦ e ]

-- components in normal form, with a scheme, are the target against any base
own_target : (base c : Components) → is_some c.scheme ≡ true → normal_components c ≡ c → resolved_components base c ≡ c
own_target base c there normal =
    let (s, scheme) = some_there c.scheme there in
    let kept : guarded_path c.authority (remove_dot_segments c.path) ≡ c.path = path s scheme in
    resolved_of_scheme base c there ∙ each_same (the_components c.scheme c.authority (guarded_path c.authority (remove_dot_segments c.path)) c.query c.fragment) c refl refl kept refl refl
  where
    path : (s : List ℕ) → c.scheme ≡ Some s → guarded_path c.authority (remove_dot_segments c.path) ≡ c.path
    path s scheme =
        let r = remove_dot_segments (normal_text c.path) in
        let is : c.path ≡ guarded_path c.authority r = sym (ap (λ (d : Components). d.path) normal) ∙ rw scheme refl in
        ap (λ p. guarded_path c.authority (remove_dot_segments p)) is ∙ ap (guarded_path c.authority) (guard_removed c.authority r ∙ removed_twice (normal_text c.path)) ∙ sym is

pub target_itself : (base uri : List ℕ) → IsNormalUri uri → target_text base uri ≡ uri
target_itself base uri is =
    let c = components uri in
    let same : normal_components c ≡ c = sym (components_of_normal uri is.valid) ∙ ap components is.normal in
    sym (resolved_text_of (components base) c base uri refl refl) ∙ ap text_of (own_target (components base) c is.begins same) ∙ text_of-components uri

pub against_itself : (base uri : List ℕ) → is_some (scheme base) ≡ true → IsNormalUri uri → uri_against base uri ≡ Ok uri
against_itself base uri there is =
    against_target base uri there (ap (λ b. b && ends_with eqb base uri) (no_hash uri is.begins)) is.valid ∙ ap (λ t. Ok (normal_form t)) (target_itself (with_fragment base None) uri is) ∙ ap (λ t. Ok t) is.normal

-- what a text means against a URI in normal form
result_target : (base text : List ℕ) → IsNormalUri base → is_uri_reference text ≡ true → IsNormalUri (normal_form (target_text (with_fragment base None) text))
result_target base text is valid =
    let b = with_fragment base None in
    let b_valid : is_uri_reference b ≡ true = reference-with_fragment base None is.valid refl in
    let b_scheme : is_some (scheme b) ≡ true = ap is_some (scheme-with_fragment base None is.valid refl) ∙ is.begins in
    let (s, scheme_is) = some_there (scheme b) b_scheme in
    let made = resolved_components (components b) (components text) in
    let made_valid = resolved_is_valid (components b) (components text) s scheme_is (components_hold b b_valid) (components_hold text valid) in
    let t = target_text b text in
    let t_is : text_of made ≡ t = resolved_text_of (components b) (components text) b text refl refl in
    let t_valid : is_uri_reference t ≡ true = from_components t (made, made_valid, sym t_is) in
    let t_made : components t ≡ made = ap components (sym t_is) ∙ components-text_of made made_valid in
    let t_scheme : is_some (scheme t) ≡ true = ap (λ (c : Components). is_some c.scheme) t_made ∙ or_some (scheme text) (scheme b) b_scheme in
    record {
      valid = from_components (normal_form t) (normal_components (components t), normal_is_valid (components t) (components_hold t t_valid), sym (normal_text_of (components t) t refl));
      begins = ap (λ (c : Components). is_some c.scheme) (components_of_normal t t_valid) ∙ map_some (scheme t) ∙ t_scheme;
      normal = normal_twice t t_valid;
    }
  where
    or_some : (o p : Option (List ℕ)) → is_some p ≡ true → is_some (option_or o p) ≡ true
    or_some None p there = there
    or_some (Some x) p there = refl

    map_some : (o : Option (List ℕ)) → is_some (option_map (map to_ascii_lowercase) o) ≡ is_some o
    map_some None = refl
    map_some (Some x) = refl

abbrev ok_of : List ℕ → Result (List ℕ) Refusal
ok_of x = Ok x

abbrev err_of : Refusal → Result (List ℕ) Refusal
err_of r = Err r

the_answer : (x y : List ℕ) → ok_of x ≡ ok_of y → x ≡ y
the_answer x y is = (let same : ok_of x ≡ ok_of y = is in cc)

pub result_normal : (base text uri : List ℕ) → IsNormalUri base → uri_against base text ≡ Ok uri → IsNormalUri uri
result_normal base text uri is answer =
    elim (cases_Bool (eqb (get_or text 0 0) 35 && ends_with eqb base text)) [
      | inl end ↦ subst IsNormalUri (the_answer base uri (sym (against_same base text is.begins end) ∙ answer)) is
      | inr other ↦
          elim (cases_Bool (is_uri_reference text)) [
            | inl valid ↦ subst IsNormalUri (the_answer (normal_form (target_text (with_fragment base None) text)) uri (sym (against_target base text is.begins other valid) ∙ answer)) (result_target base text is valid)
            | inr refused ↦ absurd (refused_ok (parse_refusal text) uri (sym (against_refused base text is.begins other refused) ∙ answer))
          ]
    ]
  where
    refused_ok : (r : Refusal) (u : List ℕ) → err_of r ≡ ok_of u → ⊥
    refused_ok r u is = cc

-- a URI that means itself
pub means_itself : (uri meant : List ℕ) → uri_of uri ≡ Ok meant → meant ≡ uri → is_some (scheme uri) ≡ true → IsNormalUri uri
means_itself uri meant is same there =
    elim (cases_Bool (is_uri_reference uri)) [
      | inl valid ↦ record { valid = valid; begins = there; normal = the_answer (normal_form uri) uri (sym (parsed_with_scheme uri valid there) ∙ is ∙ ap ok_of same) }
      | inr refused ↦ absurd (no_answer (parse_refusal uri) meant (sym (parsed_refused uri refused) ∙ is))
    ]
  where
    no_answer : (r : Refusal) (u : List ℕ) → err_of r ≡ ok_of u → ⊥
    no_answer r u is = cc

-- ---- the bases of places

-- the base of a place is in normal form
abbrev pub HasNormalBase : Place → Type 0
HasNormalBase p = (b : List ℕ) → p.base ≡ Ok b → IsNormalUri b

within : (outer : List ℕ) (id : Option (List ℕ)) → IsNormalUri outer → (b : List ℕ) → base_within outer id ≡ Ok b → IsNormalUri b
within outer None is b base = subst IsNormalUri (the_answer outer b base) is
within outer (Some id) is b base = result_normal outer id b is base

normal_children : (path : List Part) (base : List ℕ) → IsNormalUri base → (cs : List Walked) → AllByRecursion HasNormalBase (map (child_place path base) cs)
normal_children path base is [] = tt
normal_children path base is (c ∷ cs) = (within base (identifier c.draft c.value) is, normal_children path base is cs)

normal_with : (p : Place) (base : Result (List ℕ) Refusal) → ((b : List ℕ) → base ≡ Ok b → IsNormalUri b) → AllByRecursion HasNormalBase (children_with base p)
normal_with p (Ok base) is = normal_children p.path base (is base refl) (walked_children p.draft p.value)
normal_with p (Err refusal) is = tt

normal_root : (d : Document) → HasNormalUri d → HasNormalBase (root d)
normal_root d is = within d.uri (identifier d.draft d.tree) is

normal_places : (d : Document) → HasNormalUri d → AllByRecursion HasNormalBase (places d)
normal_places d is = places_induct HasNormalBase (λ p normal. normal_with p p.base normal) d (normal_root d is)

-- ---- what URIs mean

abbrev MeansNormal : List ℕ × Place → Type 0
MeansNormal r = HasNormalBase r.1

normal_resource : (p : Place) → HasNormalBase p → AllByRecursion MeansNormal (resource_of p)
normal_resource p is = by_uri (own_uri p)
  where
    by_uri : (o : Option (List ℕ)) → AllByRecursion MeansNormal (option_to_list (option_map (λ uri. (uri, p)) o))
    by_uri None = tt
    by_uri (Some uri) = (is, tt)

normal_in : (d : Document) → HasNormalUri d → AllByRecursion MeansNormal (resources_in d)
normal_in d is = (normal_root d is, all_joined HasNormalBase MeansNormal resource_of (places d) normal_resource (normal_places d is))

some_of : {X : Type 0} (P : X → Type 0) (test : X → Bool) (xs : List X) (o : Option X) → ((x : X) → o ≡ Some x → P x) → AllByRecursion P xs → (x : X) → last_or o (filter test xs) ≡ Some x → P x
some_of P test [] o first all x is = first x is
some_of P test (y ∷ xs) o first all x is =
    by_test (test y) (some_of P test xs (Some y) (λ z same. (let e : y ≡ z = cc in subst P e all.0)) all.1 x) (some_of P test xs o first all.1 x) is
  where
    by_test : (b : Bool) → (last_or (Some y) (filter test xs) ≡ Some x → P x) → (last_or o (filter test xs) ≡ Some x → P x) → last_or o (cond b (y ∷ filter test xs) (filter test xs)) ≡ Some x → P x
    by_test true taken left found = taken found
    by_test false taken left found = left found

-- the place that a URI means has a base in normal form
pub normal_meaning : (layer : Layer) (uri : List ℕ) (r : List ℕ × Place) → HaveNormalUris layer → last_under uri (resources layer) ≡ Some r → HasNormalBase r.1
normal_meaning layer uri r all is =
    some_of MeansNormal (λ e. bytes_eq e.0 uri) (resources layer) None (λ x none. cc) (all_joined HasNormalUri MeansNormal resources_in layer normal_in all) r is
