-- The tables of the URIs that places have.
use Rattle.std.proofs.Common.{◌≡◌, ℕ, Bool, true, false, not, ◌&&◌, ◌==◌, List, [], ◌∷◌, ◌++◌, map, flat_map, filter, bytes_eq, Option, Some, None, option_map, option_copied, Bor, refl, ap, sym, ◌∙◌}
use Rattle.std.specs.List.{AllZip, last_or}
use Rattle.std.specs.Option.{option_map_or, option_to_list}
use Rattle.std.specs.Cmp.{nat_eq_equiv}
use Rattle.std.specs.Cmp.Lexicographic.{lists_equiv}
use Rattle.std.proofs.Math.Bool.{and-true}
use Rattle.std.proofs.lemmas.Slice.Eq.{bytes_eq-Decides}
use Rattle.std.proofs.lemmas.List.{map-append}
use Rattle.std.proofs.lemmas.List.Elements.{filter-append}
use Rattle.ref_parts.specs.Table.{Entry, is_under, last_value}
use Rattle.ref_paths.specs.Path.{path_eq}
use Rattle.ref_paths.specs.Segment.{part_of}
use Rattle.ref_paths.specs.declared.path.JsonPointerSegment.{JsonPointerSegment}
use Rattle.ref_paths.specs.Alike.{part_equivalence}
use Rattle.ref_definitions.specs.World.{Document, Layer}
use Rattle.ref_definitions.specs.Places.{Place, places}
use Rattle.ref_definitions.specs.Resources.{last_under, resource_of, own_uri}
use Rattle.ref_bundle.specs.Needed.{counted_documents, Site, borne_in, sites_of_uris, Seen}
use Rattle.ref_bundle.specs.Bundle.{is_site, other_bearer}
use Rattle.ref_bundle.specs.inner.Seen.{see, seen_in}
use Rattle.ref_bundle.specs.inner.Tables.{site_of, table_of, entry_under, borne_at, is_other}
use Rattle.ref_bundle.specs.declared.tables.Site as rust
use Rattle.ref_bundle.proofs.Numbers.{and_left, and_right}
use Rattle.ref_bundle.proofs.Filters.{last_mapped, filter_and, filter_turned, filter_agree, last_passing, none_last, joined_filter}

-- ---- looking up

pub tabled_last : (uri : List ℕ) (es : List (Entry rust.Site)) → last_value uri [] (table_of es) ≡ option_map site_of (last_value uri [] es)
tabled_last uri es =
    ap (option_map (λ (e : Entry Site). e.2)) (last_mapped (λ (e : Entry rust.Site). (e.0, e.1, site_of e.2)) (is_under uri []) (is_under uri []) (λ e. refl) es)
    ∙ swap (last_or None (filter (is_under uri []) es))
  where
    swap : (o : Option (Entry rust.Site)) → option_map (λ (e : Entry Site). e.2) (option_map (λ (e : Entry rust.Site). (e.0, e.1, site_of e.2)) o) ≡ option_map site_of (option_map (λ (e : Entry rust.Site). e.2) o)
    swap None = refl
    swap (Some e) = refl

pub under_last : (uri : List ℕ) (bs : List (List ℕ × Site)) → last_value uri [] (map entry_under bs) ≡ option_map (λ b. b.1) (last_under uri bs)
under_last uri bs =
    ap (option_map (λ (e : Entry Site). e.2)) (last_mapped entry_under (is_under uri []) (λ b. bytes_eq b.0 uri) (λ b. and-true (bytes_eq b.0 uri)) bs)
    ∙ swap (last_under uri bs)
  where
    swap : (o : Option (List ℕ × Site)) → option_map (λ (e : Entry Site). e.2) (option_map entry_under o) ≡ option_map (λ (b : List ℕ × Site). b.1) o
    swap None = refl
    swap (Some b) = refl

-- what a table of entries has
pub found : (uri : List ℕ) (es : List (Entry rust.Site)) (bs : List (List ℕ × Site)) → table_of es ≡ map entry_under bs → option_map site_of (last_value uri [] es) ≡ option_map (λ b. b.1) (last_under uri bs)
found uri es bs is = sym (tabled_last uri es) ∙ ap (last_value uri []) is ∙ under_last uri bs

-- ---- entries with their places

sited : ℕ → List ℕ × Place → List ℕ × Site
sited n r = (r.0, (n, r.1.path))

sited_is : (n : ℕ) (rs : List (List ℕ × Place)) → map (λ r. (r.0, (n, r.1.path))) rs ≡ map (sited n) rs
unfolding sited
sited_is n rs = refl

-- ---- the other bearer of a URI

site_symm : (s t : Site) → is_site s t ≡ is_site t s
site_symm s t = ap (λ b. b && path_eq s.1 t.1) (nat_eq_equiv.symm s.0 t.0) ∙ ap (λ b. (t.0 == s.0) && b) ((lists_equiv part_equivalence).symm s.1 t.1)

site_congr : (s t u : Site) → is_site s t ≡ true → is_site s u ≡ is_site t u
site_congr s t u is =
    ap (λ b. b && path_eq s.1 u.1) (nat_eq_equiv.congr s.0 t.0 u.0 (and_left (s.0 == t.0) _ is))
    ∙ ap (λ b. (t.0 == u.0) && b) ((lists_equiv part_equivalence).congr s.1 t.1 u.1 (and_right (s.0 == t.0) _ is))

others : List (List ℕ × Site) → List ℕ → Site → List (List ℕ × Site)
others bs uri site = filter (λ e. not (is_site e.1 site)) (filter (λ e. bytes_eq e.0 uri) bs)

as_option : (o : Option (List ℕ × Site)) → option_map_or (λ e. Some e.1) o None ≡ option_map (λ e. e.1) o
as_option None = refl
as_option (Some e) = refl

other_is : (bs : List (List ℕ × Site)) (uri : List ℕ) (site : Site)
    → other_bearer bs uri site ≡ option_map (λ e. e.1) (last_or None (filter (λ e. not (is_site e.1 site)) (filter (λ e. bytes_eq e.0 uri) bs)))
other_is bs uri site =
    as_option (last_or None (filter (λ e. bytes_eq e.0 uri && not (is_site e.1 site)) bs))
    ∙ ap (λ l. option_map (λ (e : List ℕ × Site). e.1) (last_or None l)) (filter_and (λ e. bytes_eq e.0 uri) (λ e. not (is_site e.1 site)) bs)

-- where the last is another, it is that one
pub last_is_other : (bs : List (List ℕ × Site)) (uri : List ℕ) (site : Site) (e : List ℕ × Site) → last_under uri bs ≡ Some e → is_site e.1 site ≡ false → other_bearer bs uri site ≡ Some e.1
last_is_other bs uri site e is differs =
    other_is bs uri site ∙ ap (option_map (λ (b : List ℕ × Site). b.1)) (last_passing (λ b. not (is_site b.1 site)) (filter (λ b. bytes_eq b.0 uri) bs) e is (ap not differs))

others_table : (bs : List (List ℕ × Site)) → List (List ℕ × Site)
others_table bs = filter (is_other (Some (map entry_under bs))) bs

agree : (bs : List (List ℕ × Site)) (uri : List ℕ) (site : Site) (e : List ℕ × Site) → last_under uri bs ≡ Some e → is_site e.1 site ≡ true
    → (b : List ℕ × Site) → bytes_eq b.0 uri ≡ true → is_other (Some (map entry_under bs)) b ≡ not (is_site b.1 site)
agree bs uri site e is same b at =
    let text : b.0 ≡ uri = (bytes_eq-Decides b.0 uri).0 at in
    let last : last_value b.0 [] (map entry_under bs) ≡ Some e.1 = ap (λ u. last_value u [] (map entry_under bs)) text ∙ under_last uri bs ∙ ap (option_map (λ (c : List ℕ × Site). c.1)) is in
    ap (λ o. not (option_map_or (λ s. is_site s b.1) o false)) last ∙ ap not (site_congr e.1 site b.1 same ∙ site_symm site b.1)

-- where it is the same, it is the last in the table of the others
pub other_in_table : (bs : List (List ℕ × Site)) (uri : List ℕ) (site : Site) (e : List ℕ × Site) → last_under uri bs ≡ Some e → is_site e.1 site ≡ true
    → other_bearer bs uri site ≡ option_map (λ e. e.1) (last_under uri (filter (is_other (Some (map entry_under bs))) bs))
other_in_table bs uri site e is same =
    other_is bs uri site
    ∙ ap (λ l. option_map (λ (b : List ℕ × Site). b.1) (last_or None l))
    (sym (filter_agree (λ b. bytes_eq b.0 uri) (is_other (Some (map entry_under bs))) (λ b. not (is_site b.1 site)) (agree bs uri site e is same) bs)
    ∙ sym (filter_turned (λ b. bytes_eq b.0 uri) (is_other (Some (map entry_under bs))) bs))

-- and where there is none, there is no other
pub no_other : (bs : List (List ℕ × Site)) (uri : List ℕ) (site : Site) → last_under uri bs ≡ None → other_bearer bs uri site ≡ None
no_other bs uri site is =
    other_is bs uri site
    ∙ ap (λ l. option_map (λ (b : List ℕ × Site). b.1) (last_or None (filter (λ b. not (is_site b.1 site)) l))) (none_last (filter (λ b. bytes_eq b.0 uri) bs) is)

-- what the program looks up: the place that is last, where there is one
pub last_there : (uri : List ℕ) (es : List (Entry rust.Site)) (bs : List (List ℕ × Site)) (s : rust.Site) → table_of es ≡ map entry_under bs → last_value uri [] es ≡ Some s
    → (e : List ℕ × Site) × (last_under uri bs ≡ Some e) × (e.1 ≡ site_of s)
last_there uri es bs s is at = there (last_under uri bs) refl (sym (found uri es bs is) ∙ ap (option_map site_of) at)
  where
    there : (o : Option (List ℕ × Site)) → last_under uri bs ≡ o → option_map (λ (b : List ℕ × Site). b.1) o ≡ Some (site_of s) → (e : List ℕ × Site) × (last_under uri bs ≡ Some e) × (e.1 ≡ site_of s)
    there None last same = cc
    there (Some e) last same = (e, last, cc)

pub last_missing : (uri : List ℕ) (es : List (Entry rust.Site)) (bs : List (List ℕ × Site)) → table_of es ≡ map entry_under bs → last_value uri [] es ≡ None → last_under uri bs ≡ None
last_missing uri es bs is at = missing (last_under uri bs) (sym (found uri es bs is) ∙ ap (option_map site_of) at)
  where
    missing : (o : Option (List ℕ × Site)) → option_map (λ (b : List ℕ × Site). b.1) o ≡ None → o ≡ None
    missing None same = refl
    missing (Some e) same = cc

-- ---- entries

pub one_entered : (es : List (Entry rust.Site)) (uri : List ℕ) (place : rust.Site) (site : Site) → site_of place ≡ site → table_of (es ++ (uri, [], place) ∷ []) ≡ table_of es ++ entry_under (uri, site) ∷ []
one_entered es uri place site is =
    map-append (λ (x : Entry rust.Site). (x.0, x.1, site_of x.2)) es ((uri, [], place) ∷ [])
    ∙ ap (λ s. table_of es ++ (uri, [], s) ∷ []) is

pub copied_parts : (xs ys : List JsonPointerSegment) → AllZip (λ s copy. part_of copy ≡ part_of s) xs ys → map part_of ys ≡ map part_of xs
copied_parts [] [] all = refl
copied_parts [] (y ∷ ys) all = absurd all
copied_parts (x ∷ xs) [] all = absurd all
copied_parts (x ∷ xs) (y ∷ ys) all = ap (λ p. p ∷ map part_of ys) all.0 ∙ ap (λ l. part_of x ∷ l) (copied_parts xs ys all.1)

of_uri : (n : ℕ) (p : Place) (o : Option (List ℕ)) → map (sited n) (option_to_list (option_map (λ uri. (uri, p)) o)) ≡ option_to_list (option_map (λ uri. (uri, (n, p.path))) o)
unfolding sited
of_uri n p None = refl
of_uri n p (Some uri) = refl

of_places : (n : ℕ) (ps : List Place) → map (sited n) (flat_map resource_of ps) ≡ flat_map borne_at (map (see n) ps)
of_places n [] = refl
of_places n (p ∷ ps) =
    map-append (sited n) (resource_of p) (flat_map resource_of ps)
    ∙ ap (λ l. l ++ map (sited n) (flat_map resource_of ps)) (of_uri n p (own_uri p)) ∙ ap (λ l. borne_at (see n p) ++ l) (of_places n ps)

-- what a document's places have: its URI at the root, and the URIs of their identifiers
pub borne_is : (e : ℕ × Document) → borne_in e ≡ (e.1.uri, (e.0, [])) ∷ flat_map borne_at (seen_in e)
borne_is e = ap (λ l. (e.1.uri, (e.0, [])) ∷ l) (sited_is e.0 (flat_map resource_of (places e.1)) ∙ of_places e.0 (places e.1))

-- ---- the steps of the program

-- the entries of a document are that of its URI, and those of its places
pub of_document : (t : List ℕ × Site → Bool) (e : ℕ × Document) (ss : List Seen) → ss ≡ seen_in e
    → map entry_under (filter t ((e.1.uri, (e.0, [])) ∷ [])) ++ flat_map (λ s. map entry_under (filter t (borne_at s))) ss ≡ map entry_under (filter t (borne_in e))
of_document t e ss is =
    let at : List ℕ × Site = (e.1.uri, (e.0, [])) in
    ap (λ l. map entry_under (filter t (at ∷ [])) ++ l) (ap (flat_map (λ s. map entry_under (filter t (borne_at s)))) is ∙ joined_filter entry_under t borne_at (seen_in e))
    ∙ sym (map-append entry_under (filter t (at ∷ [])) (filter t (flat_map borne_at (seen_in e))))
    ∙ ap (map entry_under) (sym (filter-append t (at ∷ []) (flat_map borne_at (seen_in e))))
    ∙ ap (λ l. map entry_under (filter t l)) (sym (borne_is e))

all_pass : {X : Type 0} (xs : List X) → filter (λ x. true) xs ≡ xs
all_pass [] = refl
all_pass (x ∷ xs) = ap (λ l. x ∷ l) (all_pass xs)

-- the tables that the program makes
pub first_table : (bs : List (Entry rust.Site)) (layer : Layer) (es : List (ℕ × Document)) → es ≡ counted_documents 0 layer → table_of bs ≡ flat_map (λ e. map entry_under (filter (is_other None) (borne_in e))) es
    → table_of bs ≡ map entry_under (sites_of_uris layer)
first_table bs layer es all is =
    is ∙ joined_filter entry_under (is_other None) borne_in es ∙ ap (map entry_under) (all_pass (flat_map borne_in es)) ∙ ap (λ l. map entry_under (flat_map borne_in l)) all

pub second_table : (bs last : List (Entry rust.Site)) (layer : Layer) (es : List (ℕ × Document)) → es ≡ counted_documents 0 layer → table_of last ≡ map entry_under (sites_of_uris layer)
    → table_of bs ≡ flat_map (λ e. map entry_under (filter (is_other (Some (table_of last))) (borne_in e))) es
    → table_of bs ≡ map entry_under (filter (is_other (Some (map entry_under (sites_of_uris layer)))) (sites_of_uris layer))
second_table bs last layer es all same is =
    is ∙ joined_filter entry_under (is_other (Some (table_of last))) borne_in es
    ∙ ap (λ l. map entry_under (filter (is_other (Some (table_of last))) (flat_map borne_in l))) all
    ∙ ap (λ t. map entry_under (filter (is_other (Some t)) (sites_of_uris layer))) same

pub copied_site : (o : Option (Bor rust.Site)) → option_map (λ s. site_of s.now) o ≡ option_map site_of (option_copied o)
copied_site None = refl
copied_site (Some s) = refl
