-- From a resource the tokens of a path lead to each place at or below it.
use Rattle.std.proofs.Common.{◌≡◌, ◌≢◌, ℕ, Bool, true, false, List, [], ◌∷◌, ◌++◌, map, Option, Some, None, is_some, Result, Ok, Err, ◌⊎◌, inl, inr, refl, sym, ap, subst, ◌∙◌, append_assoc, arith}
use Rattle.std.specs.List.{Contains, AllByRecursion}
use Rattle.std.proofs.lemmas.List.{append-nil, append_cancel_left, map-append}
use Rattle.std.proofs.lemmas.List.Elements.{All-contains, All-from_recursion}
use Rattle.serde_json.specs.Data.{Data}
use Rattle.serde_json.specs.Find.{as_object}
use Rattle.ref_paths.specs.Path.{Part, Key, Index, value_at, HasFittingIndexes}
use Rattle.ref_parts.specs.Pointer.{part_text}
use Rattle.ref_draft.specs.declared.draft.Draft.{Draft}
use Rattle.ref_draft.specs.Keywords.{is_before_2020, is_map_keyword}
use Rattle.ref_draft.specs.Schema.{identifier}
use Rattle.ref_draft.specs.Children.{Child, children, is_object, keyword_of, with_draft, walked_children, AllAreThere}
use Rattle.ref_draft.specs.Scan.{IsAccepted, AcceptsChildren}
use Rattle.ref_draft.specs.ScanSteps.{scan}
use Rattle.ref_draft.specs.Beginnings.{EndsWithin, AllEndWithin, IsMapOfSchemas, is_array}
use Rattle.ref_draft.proofs.Agreement.{accepts_children}
use Rattle.ref_draft.proofs.Beginnings.{all_end_within, IsKeyAlone, begin_with_keys}
use Rattle.ref_draft.proofs.Scanning.{accepted}
use Rattle.ref_draft.proofs.Apart.{HasParts, children_have_parts}
use Rattle.ref_uri.specs.Targets.{Refusal}
use Rattle.ref_definitions.specs.Places.{Place, base_within, child_place, children_with, children_of}
use Rattle.ref_definitions.specs.Bases.{Along}
use Rattle.ref_definitions.specs.Pointers.{walked_along}
use Rattle.ref_definitions.specs.Agreement.{IsAtOrBelow, itself, below, HasPlainMaps}
use Rattle.ref_definitions.proofs.Differ.{GoesOn, on_with}
use Rattle.ref_definitions.proofs.Agreement.{Quiet, QuietWithin, none_of_array, none_of_text, some_of, Leads, lead_from}

-- ---- what is known of a child

record IsChildThere (path : List Part) (base : List ℕ) (since : List Part) (draft : Draft) (value : Data) (child : Place) : Type 0 where
  of : Child
  is : child ≡ child_place path base (with_draft draft of)
  there : value_at value of.0 ≡ Some of.1
  parts : HasParts of
  alone : IsKeyAlone of.0
  accepts : is_object of.1 ≡ true → IsAccepted draft (since ++ of.0) of.1
  ends : (beginning rest : List Part) → of.0 ≡ beginning ++ rest → beginning ≢ [] → rest ≢ [] → EndsWithin draft since value beginning

each_there : (path : List Part) (base : List ℕ) (since : List Part) (draft : Draft) (value : Data) (cs : List Child)
    → AllAreThere value (map (with_draft draft) cs) → AllByRecursion HasParts cs
    → AllByRecursion (λ child. IsKeyAlone child.0) cs → AcceptsChildren draft since cs → AllEndWithin draft since value cs
    → AllByRecursion (IsChildThere path base since draft value) (map (child_place path base) (map (with_draft draft) cs))
each_there path base since draft value [] are_there parts alone accepts ends = tt
each_there path base since draft value (c ∷ cs) are_there parts alone accepts ends = (
  record { of = c; is = refl; there = are_there.0; parts = parts.0; alone = alone.0; accepts = accepts.0; ends = ends.0 },
  each_there path base since draft value cs are_there.1 parts.1 alone.1 accepts.1 ends.1,
)

none_there : {A : Type 0} (o : Option A) → is_some o ≡ false → o ≡ None
none_there None is = refl
none_there (Some x) is = absurd (cc)

no_children : (draft : Draft) (value : Data) → is_object value ≡ false → children draft value ≡ []
no_children draft value is = rw (none_there (as_object value) is) refl

all_there : (path : List Part) (base : List ℕ) (since : List Part) (draft : Draft) (value : Data) (b : Bool) → is_object value ≡ b → AllAreThere value (walked_children draft value)
    → (is_object value ≡ true → IsAccepted draft since value) → AllByRecursion (IsChildThere path base since draft value) (map (child_place path base) (walked_children draft value))
all_there path base since draft value true is are_there ok =
    each_there path base since draft value (children draft value) are_there (children_have_parts draft value)
    (begin_with_keys draft value) (accepts_children draft since value (ok is)) (all_end_within draft since value (ok is) are_there)
all_there path base since draft value false is are_there ok =
    subst (λ cs. AllByRecursion (IsChildThere path base since draft value) (map (child_place path base) (map (with_draft draft) cs))) (sym (no_children draft value is)) tt

-- ---- between a value and its child no identifier counts

not_scanned : (draft : Draft) (since : List Part) (value : Data) (b : Bool) → scan draft (is_object value) since ≡ b → ¬ (IsAccepted draft since value) → Quiet draft since value
not_scanned draft since value true is refused = absurd (refused (accepted draft value since is))
not_scanned draft since value false is refused = inl is

quiet_map : (draft : Draft) (since beginning : List Part) (value : Data) (b : Bool) → is_before_2020 draft ≡ b → (ends : EndsWithin draft since value beginning) → (is_before_2020 draft ≡ true → HasPlainMaps draft value)
    → IsMapOfSchemas draft (keyword_of beginning) ends.within → (k : List ℕ) → beginning ≡ Key k ∷ [] → Quiet draft (since ++ beginning) ends.within
quiet_map draft since beginning value true before ends plain schemas k is =
    inr (none_of_text draft ends.within
    (plain before k ends.within (subst (λ p. is_map_keyword draft (keyword_of p) ≡ true) is schemas.keyword_of_a_map)
    (some_of _ ends.within (subst (λ p. value_at value p ≡ Some ends.within) is ends.there))))
quiet_map draft since beginning value false before ends plain schemas k is =
    not_scanned draft (since ++ beginning) ends.within (scan draft (is_object ends.within) (since ++ beginning)) refl (ends.not_accepted before)

quiet_between : (draft : Draft) (since path : List Part) (value : Data) → (is_before_2020 draft ≡ true → HasPlainMaps draft value) → IsKeyAlone path
    → ((beginning rest : List Part) → path ≡ beginning ++ rest → beginning ≢ [] → rest ≢ [] → EndsWithin draft since value beginning) → QuietWithin draft since value path
quiet_between draft since path value plain alone ends beginning rest is some more =
    let end = ends beginning rest is some more in
    let key = alone beginning rest is some more in
    (end.within, end.there, by_kind end key.0 key.1 end.between)
  where
    by_kind : (end : EndsWithin draft since value beginning) (k : List ℕ) → beginning ≡ Key k ∷ [] → (is_array end.within ≡ true) ⊎ IsMapOfSchemas draft (keyword_of beginning) end.within → Quiet draft (since ++ beginning) end.within
    by_kind end k same (inl listed) = inr (none_of_array draft end.within listed)
    by_kind end k same (inr schemas) = quiet_map draft since beginning value (is_before_2020 draft) refl end plain schemas k same

-- ---- paths and bases on the way

fits_in_front : (path rest : List Part) → HasFittingIndexes (path ++ rest) → HasFittingIndexes path
fits_in_front [] rest fits = tt
fits_in_front (Key k ∷ path) rest fits = fits_in_front path rest fits
fits_in_front (Index i ∷ path) rest fits = (fits.0, fits_in_front path rest fits.1)

fits_after : (path rest : List Part) → HasFittingIndexes (path ++ rest) → HasFittingIndexes rest
fits_after [] rest fits = fits
fits_after (Key k ∷ path) rest fits = fits_after path rest fits
fits_after (Index i ∷ path) rest fits = fits_after path rest fits.1

-- a place with a child has a base
base_of_parent : (p child : Place) (base : Result (List ℕ) Refusal) → p.base ≡ base → Contains (children_with base p) child → (uri : List ℕ) × (p.base ≡ Ok uri)
base_of_parent p child (Ok uri) is there = (uri, is)
base_of_parent p child (Err refusal) is there = absurd (omega (arith, there.1))

-- and so has a place at or above one with a base
base_above : (q p : Place) (final : List ℕ) → IsAtOrBelow q p → q.base ≡ Ok final → (uri : List ℕ) × (p.base ≡ Ok uri)
base_above q p final itself is = (final, is)
base_above q p final (below above child there under) is = base_of_parent p child p.base refl there

-- the path of a place goes on from that of a place above it
pub path_on : (q p : Place) → IsAtOrBelow q p → (more : List Part) × (q.path ≡ p.path ++ more)
path_on q p itself = ([], sym (append-nil q.path))
path_on q p (below above child there under) =
    let on = All-contains (λ c. GoesOn p.path c.path) (children_of p) child (All-from_recursion (λ c. GoesOn p.path c.path) (children_of p) (on_with p p.base)) there in
    let more = path_on q child under in
    (on.part ∷ on.rest ++ more.0, more.1 ∙ ap (λ path. path ++ more.0) on.is ∙ append_assoc p.path (on.part ∷ on.rest) more.0)

-- ---- the places below

-- what is asked of a place and of those below it
pub record AreAlike (draft : Draft) (p : Place) : Type 0 where
  pub drafts : (x : Place) → IsAtOrBelow x p → x.draft ≡ draft
  pub are_there : (x : Place) → IsAtOrBelow x p → AllAreThere x.value (walked_children draft x.value)
  pub maps : is_before_2020 draft ≡ true → (x : Place) → IsAtOrBelow x p → HasPlainMaps draft x.value

alike_child : (draft : Draft) (p child : Place) → Contains (children_of p) child → AreAlike draft p → AreAlike draft child
alike_child draft p child there alike =
    record { drafts = λ x under. alike.drafts x (below p child there under); are_there = λ x under. alike.are_there x (below p child there under); maps = λ before x under. alike.maps before x (below p child there under) }

-- the tokens of a path lead to a place
pub record Reaches (draft : Draft) (pointer : List ℕ) (along : Along) (here : Data) (path : List Part) (q : Place) (uri : List ℕ) : Type 0 where
  pub end : Along
  pub is : walked_along draft pointer along here (map part_text path) ≡ Ok (q.value, end)
  pub base : end.base ≡ uri

same_uri : (a b : List ℕ) (r : Result (List ℕ) Refusal) → r ≡ Ok a → r ≡ Ok b → a ≡ b
same_uri a b r first second = let e : Ok a ≡ Ok b = sym first ∙ second in cc

child_known : (draft : Draft) (along : Along) (p child : Place) → p.draft ≡ draft → p.base ≡ Ok along.base → AllAreThere p.value (walked_children draft p.value)
    → (is_object p.value ≡ true → IsAccepted draft along.since p.value) → Contains (children_of p) child → IsChildThere p.path along.base along.since draft p.value child
child_known draft along p child drafts base are_there ok there =
    let all = map (child_place p.path along.base) (walked_children draft p.value) in
    All-contains (IsChildThere p.path along.base along.since draft p.value) all child
    (All-from_recursion (IsChildThere p.path along.base along.since draft p.value) all (all_there p.path along.base along.since draft p.value (is_object p.value) refl are_there ok))
    (subst (λ d. Contains (map (child_place p.path along.base) (walked_children d p.value)) child) drafts (subst (λ b. Contains (children_with b p) child) base there))

-- one walk after another
two_walks : (draft : Draft) (pointer : List ℕ) (along : Along) (here v : Data) (path front : List Part) (uri : List ℕ) (more : List Part) (to : Data × Along) → path ≡ front ++ more
    → (first : Leads draft pointer along here front v uri) → walked_along draft pointer first.next v (map part_text more) ≡ Ok to → walked_along draft pointer along here (map part_text path) ≡ Ok to
two_walks draft pointer along here v path front uri more to whole first is =
    ap (λ ps. walked_along draft pointer along here (map part_text ps)) whole ∙ ap (walked_along draft pointer along here) (map-append part_text front more) ∙ first.is (map part_text more) ∙ is

pub reach : (draft : Draft) (pointer : List ℕ) (q p : Place) → IsAtOrBelow q p → AreAlike draft p → (along : Along) → p.base ≡ Ok along.base
    → (is_object p.value ≡ true → IsAccepted draft along.since p.value) → (path : List Part) → q.path ≡ p.path ++ path → HasFittingIndexes path
    → (final : List ℕ) → q.base ≡ Ok final → Reaches draft pointer along p.value path q final
reach draft pointer q p itself alike along base ok path is fits final ends =
    let none : path ≡ [] = append_cancel_left q.path path [] (sym is ∙ sym (append-nil q.path)) in
    record { end = along; is = ap (λ ps. walked_along draft pointer along q.value (map part_text ps)) none; base = same_uri along.base final q.base base ends }
reach draft pointer q p (below above child there under) alike along base ok path is fits final ends =
    let known = child_known draft along p child (alike.drafts p itself) base (alike.are_there p itself) ok there in
    let uri = base_above q child final under ends in
    let drafts : child.draft ≡ draft = alike.drafts child (below p child there itself) in
    let detected = ap (λ (c : Place). c.draft) known.is in
    let value = ap (λ (c : Place). c.value) known.is in
    let means : base_within along.base (identifier draft known.of.1) ≡ Ok uri.0 =
    ap (λ d. base_within along.base (identifier d known.of.1)) (sym drafts ∙ detected) ∙ sym (ap (λ (c : Place). c.base) known.is) ∙ uri.1 in
    let more = path_on q child under in
    let whole : path ≡ known.of.0 ++ more.0 =
    append_cancel_left p.path path (known.of.0 ++ more.0)
    (sym is ∙ more.1 ∙ ap (λ (c : Place). c.path ++ more.0) known.is ∙ append_assoc p.path known.of.0 more.0) in
    let all_fit = subst HasFittingIndexes whole fits in
    let first = lead_from draft pointer along p.value known.of.1 known.of.0 known.parts.0 known.parts.1 uri.0 known.parts.2 (fits_in_front known.of.0 more.0 all_fit) known.there
    (quiet_between draft along.since known.of.0 p.value (λ before. alike.maps before p itself) known.alone known.ends) known.accepts means in
    let rest = reach draft pointer q child under (alike_child draft p child there alike) first.next (uri.1 ∙ ap (λ u. Ok u) (sym first.base))
    (subst (λ v. is_object v ≡ true → IsAccepted draft first.next.since v) (sym value) first.accepts) more.0 more.1 (fits_after known.of.0 more.0 all_fit) final ends in
    record {
      end = rest.end;
      is = two_walks draft pointer along p.value known.of.1 path known.of.0 uri.0 more.0 (q.value, rest.end) whole first
          (subst (λ v. walked_along draft pointer first.next v (map part_text more.0) ≡ Ok (q.value, rest.end)) value rest.is);
      base = rest.base;
    }
