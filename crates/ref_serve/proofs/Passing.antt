-- Findings that are passed on, list by list, and documents with other trees.
use Rattle.std.proofs.Common.{◌≡◌, ◌∙◌, ℕ, zero, suc, ◌+◌, ◌<◌, ◌≤◌, ◌==◌, length, drop, get_or, Bool, true, false, not, List, [], ◌∷◌, ◌++◌, map, flat_map, Option, None, Some, option_map, cond, refl, sym, ap, subst, append_assoc, append-nil, String, Global, string_bytes, nat_cmp, is_eq, arith}
use Rattle.std.specs.Prelude.{unwrap_or, option_and_then, slice_get, MatchOption}
use Rattle.std.specs.List.{AllZip, find}
use Rattle.std.specs.Option.{option_map_or, option_to_list, option_flatten}
use Rattle.std.proofs.lemmas.List.{at_drop_more, drop_all, nil_from_length, map-append}
use Rattle.std.proofs.lemmas.Bool.{ne_eqb}
use Rattle.std.proofs.lemmas.Option.{slice_get_within, get_or_from_slice_get}
use Rattle.std.specs.Map.{remove_entry}
use Rattle.std.specs.BTreeMap.{is_at}
use Rattle.std.specs.Cmp.Lexicographic.{slice_cmp}
use Rattle.std.specs.declared.vec.Vec.{Vec}
use Rattle.std.proofs.lemmas.Map.Text.{is_eq-slice_cmp}
use Rattle.serde_json.specs.Data.{Data, member}
use Rattle.serde_json.specs.View.{view, members_view}
use Rattle.serde_json.specs.declared.value.Value.{Value}
use Rattle.serde_json.proofs.Views.{Entry}
use Rattle.ref_definitions.specs.World.{World}
use Rattle.ref_findings.specs.declared.finding.Finding as rust
use Rattle.ref_findings.specs.Findings.{Finding}
use Rattle.ref_findings.specs.declared.gathering.Held.{Held}
use Rattle.ref_findings.specs.Held.{held_source}
use Rattle.ref_findings.specs.Unmet.{without_texts}
use Rattle.ref_findings.specs.Entries.{IsFindingOf, SaysFindings}
use Rattle.ref_serve.specs.Mending.{is_in_parents, unmet_above, is_of_root, root_identifier, members_without, without_member, mended_tree, mended_each, document_of, objects_of}
use Rattle.ref_serve.specs.inner.Mended.{tree_maybe, with_trees}
use Rattle.ref_calls.specs.Given.{given_of}

-- a document of the program
abbrev Document : Type 0
Document = String Global × Value

-- ---- two lists that agree, of which the first is passed on

pub zip_push : {A B : Type 0} (R : A → B → Type 0) (xs : List A) (ys : List B) (x : A) (y : B) → AllZip R xs ys → R x y → AllZip R (xs ++ x ∷ []) (ys ++ y ∷ [])
zip_push R [] [] x y zip is = (is, tt)
zip_push R [] (b ∷ ys) x y zip is = absurd zip
zip_push R (a ∷ xs) [] x y zip is = absurd zip
zip_push R (a ∷ xs) (b ∷ ys) x y zip is = (zip.0, zip_push R xs ys x y zip.1 is)

-- the findings that are passed on so far, before those of what is left, are all that are
abbrev pub IsPassed : World → List rust.Finding → List rust.Finding → List Finding → Type 0
IsPassed parents left done all =
    (rest : List Finding) × (ds : List Finding) × AllZip IsFindingOf left rest × AllZip IsFindingOf done ds × (ds ++ unmet_above parents rest ≡ unmet_above parents all)

-- one that a parent meets is not
pub one_met : (parents : World) (f : rust.Finding) (left done : List rust.Finding) (all : List Finding) → IsPassed parents (f ∷ left) done all
    → ((g : Finding) → IsFindingOf f g → is_in_parents parents g ≡ true) → IsPassed parents left done all
one_met parents f left done all ([], ds, zip, more, is) met = absurd zip
one_met parents f left done all (g ∷ rest, ds, zip, more, is) met =
    (rest, ds, zip.1, more, ap (λ b. ds ++ cond (not b) (g ∷ unmet_above parents rest) (unmet_above parents rest)) (sym (met g zip.0)) ∙ is)

pub one_unmet : (parents : World) (f : rust.Finding) (left done : List rust.Finding) (all : List Finding) → IsPassed parents (f ∷ left) done all
    → ((g : Finding) → IsFindingOf f g → is_in_parents parents g ≡ false) → IsPassed parents left (done ++ f ∷ []) all
one_unmet parents f left done all ([], ds, zip, more, is) unmet = absurd zip
one_unmet parents f left done all (g ∷ rest, ds, zip, more, is) unmet = (
  rest,
  ds ++ g ∷ [],
  zip.1,
  zip_push IsFindingOf done ds f g more zip.0,
  append_assoc ds (g ∷ []) (unmet_above parents rest)
      ∙ ap (λ b. ds ++ cond (not b) (g ∷ unmet_above parents rest) (unmet_above parents rest)) (sym (unmet g zip.0)) ∙ is,
)

pub all_passed : (parents : World) (done : List rust.Finding) (all : List Finding) → IsPassed parents [] done all → AllZip IsFindingOf done (unmet_above parents all)
all_passed parents done all ([], ds, zip, more, is) = subst (AllZip IsFindingOf done) (sym (append-nil ds) ∙ is) more
all_passed parents done all (g ∷ rest, ds, zip, more, is) = absurd zip

-- ---- lists of lists

-- what is made of each list so far, before what is made of those that are left, is what is made of all
abbrev pub AreMade : {A B : Type 0} → (List Finding → B) → (A → B → Type 0) → List (Vec rust.Finding Global) → List A → List (List Finding) → Type 0
AreMade f R left done all =
    (rest : List (List Finding)) × (ds : List _) × AllZip SaysFindings left rest × AllZip R done ds × (ds ++ map f rest ≡ map f all)

pub one_made : {A B : Type 0} (f : List Finding → B) (R : A → B → Type 0) (list : Vec rust.Finding Global) (left : List (Vec rust.Finding Global)) (done : List A) (made : A) (all : List (List Finding))
    → AreMade f R (list ∷ left) done all → ((fs : List Finding) → SaysFindings list fs → R made (f fs)) → AreMade f R left (done ++ made ∷ []) all
one_made f R list left done made all ([], ds, zip, more, is) of = absurd zip
one_made f R list left done made all (fs ∷ rest, ds, zip, more, is) of =
    (rest, ds ++ f fs ∷ [], zip.1, zip_push R done ds made (f fs) more (of fs zip.0), append_assoc ds (f fs ∷ []) (map f rest) ∙ is)

pub all_made : {A B : Type 0} (f : List Finding → B) (R : A → B → Type 0) (done : List A) (all : List (List Finding)) → AreMade f R [] done all → AllZip R done (map f all)
all_made f R done all ([], ds, zip, more, is) = subst (AllZip R done) (sym (append-nil ds) ∙ is) more
all_made f R done all (fs ∷ rest, ds, zip, more, is) = absurd zip

-- the objects so far, before those of the lists that are left, are all of them
abbrev pub AreTold : List (Vec rust.Finding Global) → List Data → List Data → Type 0
AreTold left done all = (rest : List (List Finding)) × AllZip SaysFindings left rest × (done ++ flat_map objects_of rest ≡ all)

pub one_told : (list : Vec rust.Finding Global) (left : List (Vec rust.Finding Global)) (done new all : List Data) → AreTold (list ∷ left) done all
    → ((fs : List Finding) → SaysFindings list fs → new ≡ done ++ objects_of fs) → AreTold left new all
one_told list left done new all ([], zip, is) of = absurd zip
one_told list left done new all (fs ∷ rest, zip, is) of =
    (rest, zip.1, ap (λ d. d ++ flat_map objects_of rest) (of fs zip.0) ∙ append_assoc done (objects_of fs) (flat_map objects_of rest) ∙ is)

pub all_told : (done all : List Data) → AreTold [] done all → done ≡ all
all_told done all ([], zip, is) = sym (append-nil done) ∙ is
all_told done all (fs ∷ rest, zip, is) = absurd zip

-- ---- trees

without_at : (b : Bool) (key : List ℕ) (e : Entry) (es more : List Entry) → is_eq (slice_cmp nat_cmp key (string_bytes e.0)) ≡ b
    → members_view more ≡ members_without key (members_view es)
    → members_view (cond b es (e ∷ more)) ≡ cond b (members_view es) (member (string_bytes e.0) (view e.1) (members_without key (members_view es)))
without_at true key e es more is later = refl
without_at false key e es more is later = ap (member (string_bytes e.0) (view e.1)) later

-- the members that are left where one is taken out
pub taken_out : (key : List ℕ) (es : List Entry) → members_view (remove_entry (is_at (λ k. slice_cmp nat_cmp key (string_bytes k))) es) ≡ members_without key (members_view es)
taken_out key [] = refl
taken_out key (e ∷ es) =
    without_at (is_eq (slice_cmp nat_cmp key (string_bytes e.0))) key e es _ refl (taken_out key es)
    ∙ ap (λ b. cond b (members_view es) (member (string_bytes e.0) (view e.1) (members_without key (members_view es)))) (is_eq-slice_cmp key (string_bytes e.0))

-- a document that is mended where its texts are known, before the others
pub one_mended : (d : List ℕ × Data) (ds : List (List ℕ × Data)) (tree : Option Data) (trees : List (Option Data)) (fs : List Finding) (found : List (List Finding))
    → unwrap_or tree d.1 ≡ mended_tree fs d.1 → with_trees ds trees ≡ mended_each ds found → with_trees (d ∷ ds) (tree ∷ trees) ≡ mended_each (d ∷ ds) (fs ∷ found)
one_mended d ds tree trees fs found is more = ap (λ t. (d.0, t) ∷ with_trees ds trees) is ∙ ap (λ l. (d.0, mended_tree fs d.1) ∷ l) more

-- the rest of a list from an element on
pub next_left : {X : Type 0} (xs : List X) (i : ℕ) (x : X) → i < length xs → x ≡ get_or xs i x → drop i xs ≡ x ∷ drop (i + 1) xs
next_left xs i x within is = at_drop_more (λ l. l) xs i x within ∙ ap (λ y. y ∷ drop (i + 1) xs) (sym is)

pub found_left : {X : Type 0} (xs : List X) (i : ℕ) (x : X) → slice_get xs i ≡ Some x → drop i xs ≡ x ∷ drop (i + 1) xs
found_left xs i x is = next_left xs i x (slice_get_within xs i x is) (sym (get_or_from_slice_get xs i x x is))

past : {X : Type 0} (xs : List X) (i : ℕ) → slice_get xs i ≡ None → length xs ≤ i
past [] i is = omega arith
past (x ∷ xs) zero is = absurd (cc)
past (x ∷ xs) (suc i) is = let more : length xs ≤ i = past xs i is in omega arith

-- or from past its end
pub none_left : {X : Type 0} (xs : List X) (i : ℕ) → slice_get xs i ≡ None → drop i xs ≡ []
none_left xs i is = drop_all i xs (past xs i is)

-- whatever trees the documents that are left get, those before have theirs, where the texts of these are left
abbrev pub AreMended : List (List ℕ × Data) → List (List ℕ × Data) → List (Option Data) → List (Vec rust.Finding Global) → List (List Finding) → Type 0
AreMended documents others done left all =
    (rest : List (List Finding)) × AllZip SaysFindings left rest
    × ((trees : List (Option Data)) → with_trees others trees ≡ mended_each others rest → with_trees documents (done ++ trees) ≡ mended_each documents all)

pub one_in_place : (documents : List (List ℕ × Data)) (d : List ℕ × Data) (ds : List (List ℕ × Data)) (done : List (Option Data)) (tree : Option Data) (list : Vec rust.Finding Global) (left : List (Vec rust.Finding Global)) (all : List (List Finding))
    → AreMended documents (d ∷ ds) done (list ∷ left) all → ((fs : List Finding) → SaysFindings list fs → unwrap_or tree d.1 ≡ mended_tree fs d.1) → AreMended documents ds (done ++ tree ∷ []) left all
one_in_place documents d ds done tree list left all ([], zip, next) of = absurd zip
one_in_place documents d ds done tree list left all (fs ∷ rest, zip, next) of = (
  rest,
  zip.1,
  λ trees is. ap (with_trees documents) (append_assoc done (tree ∷ []) trees) ∙ next (tree ∷ trees) (one_mended d ds tree trees fs rest (of fs zip.0) is),
)

-- where no document is left, or the texts of none
pub all_in_place : (documents : List (List ℕ × Data)) (done : List (Option Data)) (left : List (Vec rust.Finding Global)) (all : List (List Finding)) → AreMended documents [] done left all
    → with_trees documents done ≡ mended_each documents all
all_in_place documents done left all (rest, zip, next) = ap (with_trees documents) (sym (append-nil done)) ∙ next [] refl

without_texts_left : (others : List (List ℕ × Data)) → with_trees others [] ≡ mended_each others []
without_texts_left [] = refl
without_texts_left (d ∷ ds) = refl

pub no_more_in_place : (documents others : List (List ℕ × Data)) (done : List (Option Data)) (all : List (List Finding)) → AreMended documents others done [] all → with_trees documents done ≡ mended_each documents all
no_more_in_place documents others done all ([], zip, next) = ap (with_trees documents) (sym (append-nil done)) ∙ next [] (without_texts_left others)
no_more_in_place documents others done all (fs ∷ rest, zip, next) = absurd zip

-- ---- trees one by one

-- a document for which no tree is left stays
pub no_trees : (ds : List (List ℕ × Data)) → with_trees ds [] ≡ ds
no_trees [] = refl
no_trees (d ∷ ds) = refl

-- a document gets the next tree, where one is left
next_tree : (d : List ℕ × Data) (ds : List (List ℕ × Data)) (before after : List (Option Value)) (r : Option (Option Value)) (n m : ℕ) → before ≡ option_to_list r ++ after
    → MatchOption r ((n ≡ 0) × (m ≡ 0)) (λ x. (before ≡ x ∷ after) × (m + 1 ≡ n)) → n ≡ length before
    → (with_trees (d ∷ ds) (map tree_maybe before) ≡ (d.0, unwrap_or (tree_maybe (option_flatten r)) d.1) ∷ with_trees ds (map tree_maybe after)) × (m ≡ length after)
next_tree d ds before after (Some tree) n m is cases long = (ap (λ ts. with_trees (d ∷ ds) (map tree_maybe ts)) is, omega (arith, cases.1, long, ap length is))
next_tree d ds before after None n m is cases long =
    let none : before ≡ [] = nil_from_length before (sym long ∙ cases.0) in
    let left : after ≡ [] = sym is ∙ none in (
      ap (λ ts. with_trees (d ∷ ds) (map tree_maybe ts)) none ∙ ap (λ l. d ∷ l) (sym (no_trees ds)) ∙ ap (λ ts. d ∷ with_trees ds (map tree_maybe ts)) (sym left),
      cases.1 ∙ ap length (sym left),
    )

pub one_with_tree : (done rest : List Document) (document made : Document) (before after : List (Option Value)) (r : Option (Option Value)) (n m : ℕ) (all : List (List ℕ × Data)) → before ≡ option_to_list r ++ after
    → MatchOption r ((n ≡ 0) × (m ≡ 0)) (λ x. (before ≡ x ∷ after) × (m + 1 ≡ n)) → n ≡ length before → given_of made ≡ ((given_of document).0, unwrap_or (tree_maybe (option_flatten r)) (given_of document).1)
    → map given_of done ++ with_trees (map given_of (document ∷ rest)) (map tree_maybe before) ≡ all
    → (map given_of (done ++ made ∷ []) ++ with_trees (map given_of rest) (map tree_maybe after) ≡ all) × (m ≡ length after)
one_with_tree done rest document made before after r n m all is cases long same was =
    let more = with_trees (map given_of rest) (map tree_maybe after) in
    let next = next_tree (given_of document) (map given_of rest) before after r n m is cases long in (
      ap (λ ds. ds ++ more) (map-append given_of done (made ∷ [])) ∙ append_assoc (map given_of done) (given_of made ∷ []) more ∙ ap (λ d. map given_of done ++ d ∷ more) same
          ∙ ap (λ ds. map given_of done ++ ds) (sym next.0) ∙ was,
      next.1,
    )

-- a document that was retrieved comes after the others
pub one_held : (done : List Document) (made : Document) (held : Held) (rest : List Held) (all : List (List ℕ × Data)) → given_of made ≡ ((held_source held).uri, view held.value)
    → map given_of done ++ flat_map document_of (map held_source (held ∷ rest)) ≡ all → map given_of (done ++ made ∷ []) ++ flat_map document_of (map held_source rest) ≡ all
one_held done made held rest all same was =
    let more = flat_map document_of (map held_source rest) in
    ap (λ ds. ds ++ more) (map-append given_of done (made ∷ [])) ∙ append_assoc (map given_of done) (given_of made ∷ []) more ∙ ap (λ d. map given_of done ++ d ∷ more) same ∙ was

-- ---- the identifier of a root

-- the first that is about it is among those that are left
abbrev pub IsSought : List rust.Finding → List Finding → Type 0
IsSought left all = (rest : List Finding) × AllZip IsFindingOf left rest × (root_identifier rest ≡ root_identifier all)

pub one_not : (f : rust.Finding) (left : List rust.Finding) (all : List Finding) → IsSought (f ∷ left) all → ((g : Finding) → IsFindingOf f g → false ≡ is_of_root g) → IsSought left all
one_not f left all ([], zip, is) says = absurd zip
one_not f left all (g ∷ rest, zip, is) says =
    (rest, zip.1, ap (λ b. option_and_then (λ h. h.keyword) (cond b (Some g) (find is_of_root rest))) (says g zip.0) ∙ is)

pub one_is : (f : rust.Finding) (left : List rust.Finding) (all : List Finding) → IsSought (f ∷ left) all → ((g : Finding) → IsFindingOf f g → true ≡ is_of_root g) → option_map (λ k. k.now) f.keyword ≡ root_identifier all
one_is f left all ([], zip, is) says = absurd zip
one_is f left all (g ∷ rest, zip, is) says =
    zip.0.2 ∙ ap (λ b. option_and_then (λ h. h.keyword) (cond b (Some g) (find is_of_root rest))) (says g zip.0) ∙ is

pub none_is : (all : List Finding) → IsSought [] all → None ≡ root_identifier all
none_is all ([], zip, is) = is
none_is all (g ∷ rest, zip, is) = absurd zip

-- ---- one tree

-- where nothing is found
pub mended_none : (found : List rust.Finding) (fs : List Finding) (tree : Data) → (length found == 0) ≡ true → AllZip IsFindingOf found fs → tree ≡ mended_tree fs tree
mended_none [] [] tree none zip = refl
mended_none [] (f ∷ fs) tree none zip = absurd zip
mended_none (g ∷ found) fs tree none zip = let bad : false ≡ true = sym (ne_eqb (length (g ∷ found)) 0 (λ e. omega (arith, e))) ∙ none in cc

-- where something is
mended_some : (found : List rust.Finding) (fs : List Finding) (tree : Data) → (length found == 0) ≡ false → AllZip IsFindingOf found fs
    → mended_tree fs tree ≡ option_map_or (λ key. without_member key (without_texts fs tree)) (root_identifier fs) (without_texts fs tree)
mended_some [] fs tree some zip = absurd (cc)
mended_some (g ∷ found) [] tree some zip = absurd zip
mended_some (g ∷ found) (f ∷ fs) tree some zip = refl

-- among it the identifier of the root
pub mended_root : (found : List rust.Finding) (fs : List Finding) (tree made left : Data) (key : List ℕ) → (length found == 0) ≡ false → AllZip IsFindingOf found fs → Some key ≡ root_identifier fs
    → made ≡ without_texts fs tree → left ≡ without_member key made → left ≡ mended_tree fs tree
mended_root found fs tree made left key some zip root is out =
    out ∙ ap (without_member key) is ∙ ap (λ o. option_map_or (λ k. without_member k (without_texts fs tree)) o (without_texts fs tree)) root ∙ sym (mended_some found fs tree some zip)

-- or not
pub mended_below : (found : List rust.Finding) (fs : List Finding) (tree made : Data) → (length found == 0) ≡ false → AllZip IsFindingOf found fs → None ≡ root_identifier fs → made ≡ without_texts fs tree
    → made ≡ mended_tree fs tree
mended_below found fs tree made some zip root is =
    is ∙ ap (λ o. option_map_or (λ k. without_member k (without_texts fs tree)) o (without_texts fs tree)) root ∙ sym (mended_some found fs tree some zip)
