-- A document none of whose places is faulty has the places and no fault of the registry's own definitions.
use Rattle.std.proofs.Common.{◌≡◌, ℕ, zero, suc, Bool, true, false, ◌||◌, ◌&&◌, not, List, [], ◌∷◌, ◌++◌, map, flat_map, Option, Some, None, Result, Ok, Err, is_some, option_map, refl, sym, ap, ◌∙◌, subst, append-nil}
use Rattle.std.specs.List.{list_any}
use Rattle.std.specs.Option.{option_map_or}
use Rattle.std.proofs.lemmas.List.Folds.{list_any-append}
use Rattle.std.proofs.lemmas.List.Concat.{flat_map-append}
use Rattle.serde_json.specs.Data.{Data, depth}
use Rattle.ref_draft.specs.declared.draft.Draft.{Draft}
use Rattle.ref_uri.specs.Targets.{Refusal}
use Rattle.ref_definitions.specs.World.{Document, Layer}
use Rattle.std.specs.Prelude.{if◌then◌else◌}
use Rattle.ref_definitions.specs.Places.{Place, child_place, root, children_with, children_of, levels, levels_below, places}
use Rattle.ref_definitions.specs.Wants.{reference_at, schema_at, refusals_of, faults_at, faults}
use Rattle.ref_paths.specs.Path.{Part}
use Rattle.ref_draft.specs.Schema.{detect}
use Rattle.ref_draft.specs.Children.{Child, Walked, children, with_draft}
use Rattle.ref_findings.specs.Places.{document, nearest_of, nearest_base, with_read_draft, children_near, places_near, is_refused, is_faulty}
use Rattle.ref_findings.specs.Sources.{Source, is_sound}

neither : (a b : Bool) → (a || b) ≡ false → (a ≡ false) × (b ≡ false)
neither true b is = cc
neither false b is = (refl, is)

none_refused : (o : Option (Result (List ℕ) Refusal)) → is_refused o ≡ false → refusals_of o ≡ []
none_refused None is = refl
none_refused (Some (Ok uri)) is = refl
none_refused (Some (Err refusal)) is = cc

-- ---- one place

place_faultless : (base : Result (List ℕ) Refusal) (outer : List ℕ) (value : Data)
    → (is_refused (Some base) || (is_refused (reference_at (nearest_of outer base) value) || is_refused (schema_at value))) ≡ false → faults_at base value ≡ []
place_faultless (Ok base) outer value is =
    let both = neither (is_refused (reference_at base value)) (is_refused (schema_at value)) is in
    ap (λ l. l ++ refusals_of (schema_at value)) (none_refused (reference_at base value) both.0) ∙ none_refused (schema_at value) both.1
place_faultless (Err refusal) outer value is = cc

place_children : (base : Result (List ℕ) Refusal) (p : Place) (more : Bool) → (is_refused (Some base) || more) ≡ false
    → children_with base p ≡ children_with (Ok (nearest_of p.outer base)) p
place_children (Ok base) p more is = refl
place_children (Err refusal) p more is = cc

-- a child that isn't faulty is read by the draft that is detected on it
same_draft : (q : Place) → is_faulty q ≡ false → is_refused (schema_at q.value) ≡ false
same_draft q is = (neither (is_refused (reference_at (nearest_base q) q.value)) (is_refused (schema_at q.value)) (neither (is_refused (Some q.base)) _ is).1).1

same_walked : (d : Draft) (path : List Part) (base : List ℕ) (cs : List Child) → list_any is_faulty (map (child_place path base) (map (with_read_draft d) cs)) ≡ false
    → map (child_place path base) (map (with_draft d) cs) ≡ map (child_place path base) (map (with_read_draft d) cs)
same_walked d path base [] is = refl
same_walked d path base (c ∷ cs) is =
    let q = child_place path base (with_read_draft d c) in
    let both = neither (is_faulty q) (list_any is_faulty (map (child_place path base) (map (with_read_draft d) cs))) is in
    let read : Bool → Place = λ b. child_place path base (record { path = c.0; value = c.1; draft = if b then d else detect d c.1 }) in
    ap (λ b. read b ∷ map (child_place path base) (map (with_draft d) cs)) (sym (same_draft q both.0)) ∙ ap (λ l. q ∷ l) (same_walked d path base cs both.1)

-- ---- places one after another

faultless : (ps : List Place) → list_any is_faulty ps ≡ false → flat_map (λ p. faults_at p.base p.value) ps ≡ []
faultless [] is = refl
faultless (p ∷ ps) is =
    let both = neither (is_faulty p) (list_any is_faulty ps) is in
    ap (λ l. l ++ flat_map (λ q. faults_at q.base q.value) ps) (place_faultless p.base p.outer p.value both.0) ∙ faultless ps both.1

same_children : (ps : List Place) → list_any is_faulty ps ≡ false → list_any is_faulty (flat_map children_near ps) ≡ false → flat_map children_of ps ≡ flat_map children_near ps
same_children [] is below = refl
same_children (p ∷ ps) is below =
    let both = neither (is_faulty p) (list_any is_faulty ps) is in
    let under = neither (list_any is_faulty (children_near p)) (list_any is_faulty (flat_map children_near ps)) (sym (list_any-append is_faulty (children_near p) (flat_map children_near ps)) ∙ below) in
    let one = place_children p.base p _ both.0 ∙ same_walked p.draft p.path (nearest_base p) (children p.draft p.value) under.0 in
    ap (λ l. l ++ flat_map children_of ps) one ∙ ap (λ l. children_near p ++ l) (same_children ps both.1 under.1)

-- n levels below places, each the joined children of the one above
abbrev levels_near : ℕ → List Place → List Place
levels_near n ps = levels children_near n ps

same_levels : (n : ℕ) (ps : List Place) → list_any is_faulty ps ≡ false → list_any is_faulty (levels_near n ps) ≡ false → levels_below n ps ≡ levels_near n ps
same_levels zero ps here below = refl
same_levels (suc n) ps here below =
    let next = flat_map children_near ps in
    let both = neither (list_any is_faulty next) (list_any is_faulty (levels_near n next)) (sym (list_any-append is_faulty next (levels_near n next)) ∙ below) in
    ap (λ l. l ++ levels_below n l) (same_children ps here both.0) ∙ ap (λ l. next ++ l) (same_levels n next both.0 both.1)

root_sound : (d : Document) → (is_faulty (root d) ≡ false) → list_any is_faulty (root d ∷ []) ≡ false
root_sound d is = ap (λ b. b || false) is

pub same_places : (d : Document) → list_any is_faulty (places_near d) ≡ false → places d ≡ places_near d
same_places d is =
    let both = neither (is_faulty (root d)) (list_any is_faulty (levels_near (depth d.tree) (root d ∷ []))) is in
    ap (λ l. root d ∷ l) (same_levels (depth d.tree) (root d ∷ []) (root_sound d both.0) both.1)

pub faultless_document : (d : Document) → list_any is_faulty (places_near d) ≡ false → flat_map (λ p. faults_at p.base p.value) (places d) ≡ []
faultless_document d is = ap (flat_map (λ p. faults_at p.base p.value)) (same_places d is) ∙ faultless (places_near d) is

document_faultless : (d : Document) → list_any is_faulty (places_near d) ≡ false → faults (d ∷ []) ≡ []
document_faultless d is =
    append-nil (flat_map (λ p. faults_at p.base p.value) (places d)) ∙ faultless_document d is

-- a layer without a fault, and one document more that has none
pub faultless_more : (layer : Layer) (d : Document) → faults layer ≡ [] → list_any is_faulty (places_near d) ≡ false → faults (layer ++ d ∷ []) ≡ []
faultless_more layer d before is =
    flat_map-append (λ (e : Document). flat_map (λ p. faults_at p.base p.value) (places e)) layer (d ∷ [])
    ∙ ap (λ l. l ++ faults (d ∷ [])) before ∙ document_faultless d is

-- ---- a source

truly : (b : Bool) → (true && not b) ≡ true → b ≡ false
truly true is = cc
truly false is = refl

tree_sound : (draft : Draft) (uri : List ℕ) (tree : Option Data) (t : Data) → tree ≡ Some t
    → (is_some tree && not (list_any is_faulty (option_map_or places_near (option_map (document draft uri) tree) []))) ≡ true
    → list_any is_faulty (places_near (document draft uri t)) ≡ false
tree_sound draft uri None t is sound = cc
tree_sound draft uri (Some u) t is sound =
    let same : u ≡ t = cc in
    subst (λ v. list_any is_faulty (places_near (document draft uri v)) ≡ false) same (truly (list_any is_faulty (places_near (document draft uri u))) sound)

pub sound_places : (draft : Draft) (s : Source) (t : Data) → s.tree ≡ Some t → is_sound draft s ≡ true → list_any is_faulty (places_near (document draft s.uri t)) ≡ false
sound_places draft s t is sound = tree_sound draft s.uri s.tree t is sound
