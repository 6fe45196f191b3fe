-- The places of a bundle.
use Rattle.std.proofs.Common.{◌≡◌, ℕ, suc, ◌+◌, ◌≤◌, true, List, [], ◌∷◌, ◌++◌, map, drop, Ok, refl, sym, ap, subst, ◌∙◌, append-nil, arith}
use Rattle.std.specs.Bool.{⊤}
use Rattle.std.specs.List.{AllByRecursion}
use Rattle.serde_json.specs.Data.{depth}
use Rattle.ref_draft.specs.Children.{Child, with_draft, children, is_object, InKeyOrder}
use Rattle.ref_definitions.specs.World.{Document}
use Rattle.ref_definitions.specs.Places.{Place, root, base_within, child_place, children_with, children_of, levels_below, places}
use Rattle.ref_definitions.proofs.Levels.{places_end}
use Rattle.ref_bundle_laws.specs.Merges.{from_first, IsMergeOf}
use Rattle.ref_definitions.specs.Moving.{below_path}
use Rattle.ref_bundle.specs.Embedding.{base_uri}
use Rattle.ref_bundle.specs.Bundle.{definitions_keyword, definitions_of, member_of, tree_with, bundle_of}
use Rattle.ref_bundle_laws.specs.Kept.{document_of_bundle, path_in, place_in, places_of_embedded, places_of_root}
use Rattle.ref_bundle_laws.proofs.LawMerges.{all_first}
use Rattle.ref_definitions.proofs.Moving.{below_moved}
use Rattle.ref_bundle_laws.proofs.LawTree.{map_each, with_levels, merge_with_levels, each_single, KeysApart, NoneTaken, HasMap, children_with_map}
use Rattle.ref_bundle_laws.proofs.LawTop.{definitions_hold, identifier_top}
use Rattle.ref_bundle_laws.proofs.LawBorne.{Embedding, below_root, IsPut}

-- where documents are put under a root, it has room for them
pub record HasRoom (top : Document) (es : List (ℕ × Document)) : Type 0 where
  pub object : is_object top.tree ≡ true
  pub has_map : HasMap (definitions_keyword top.draft) top.tree
  pub free : NoneTaken (definitions_of top) (map (member_of top.draft) es)
  pub keys_apart : KeysApart (map (member_of top.draft) es)

abbrev pub HasRoomFor : Document → List (ℕ × Document) → Type 0
HasRoomFor top [] = ⊤
HasRoomFor top (e ∷ es) = HasRoom top (e ∷ es)

-- a document with its place
abbrev pub put_in : Document → ℕ × Document → Embedding
put_in top e = record { place = place_in top e.1; document = e.1 }

abbrev pub AllPut : Document → List (ℕ × Document) → Type 0
AllPut top es = AllByRecursion (λ e. IsPut (put_in top e)) es

-- the bundle of a root and these documents, as a document
abbrev pub joined : Document → List (ℕ × Document) → Document
joined top es = document_of_bundle top (bundle_of top es)

root_merge : (top : Document) (es : List (ℕ × Document)) → InKeyOrder top.tree → HasRoomFor top es
    → IsMergeOf Child (children top.draft (tree_with top es)) (children top.draft top.tree ∷ each_single (definitions_keyword top.draft) (map (member_of top.draft) es))
root_merge top [] sorted room = ([], all_first (children top.draft top.tree), refl)
root_merge top (e ∷ es) sorted room =
    children_with_map top.draft (definitions_keyword top.draft) top.tree (map (member_of top.draft) (e ∷ es)) (definitions_hold top.draft) room.object sorted room.has_map room.free room.keys_apart

pub same_base : (top : Document) (es : List (ℕ × Document)) → (root (joined top es)).base ≡ (root top).base
same_base top es = ap (base_within top.uri) (identifier_top top es)

-- the levels below each embedded document
enough : ℕ → List (ℕ × Document) → Type 0
enough n es = AllByRecursion (λ e. depth e.1.tree ≤ n) es

below_enough : (d : Document) (n : ℕ) → depth d.tree ≤ n → levels_below n (root d ∷ []) ≡ below_root d
below_enough d n more = ap (drop 1) (places_end d n more)

-- what each single child becomes
singles_are : (top : Document) (es : List (ℕ × Document)) (n : ℕ) → AllByRecursion (λ e. depth e.1.tree ≤ n) es → AllPut top es
    → map (with_levels n) (map (map (child_place [] (base_uri top))) (map (map (with_draft top.draft)) (each_single (definitions_keyword top.draft) (map (member_of top.draft) es)))) ≡ map (places_of_embedded top) es
singles_are top [] n more put = refl
singles_are top (e ∷ es) n more put =
    ap (λ ps. (place_in top e.1 ∷ ps) ∷ map (with_levels n) (map (map (child_place [] (base_uri top))) (map (map (with_draft top.draft)) (each_single (definitions_keyword top.draft) (map (member_of top.draft) es)))))
    (below_moved n (path_in top e.1) (place_in top e.1) (root e.1) put.0.same_children ∙ ap (map (below_path (path_in top e.1))) (below_enough e.1 n more.0))
    ∙ ap (λ parts. places_of_embedded top e ∷ parts) (singles_are top es n more.1 put.1)

-- as many levels as all of them have
deep : List (ℕ × Document) → ℕ
deep [] = 0
deep (e ∷ es) = depth e.1.tree + deep es

all_deep : (es : List (ℕ × Document)) (n : ℕ) → deep es ≤ n → AllByRecursion (λ e. depth e.1.tree ≤ n) es
unfolding deep
all_deep [] n more = tt
all_deep (e ∷ es) n more = (omega (arith, more), all_deep es n (omega (arith, more)))

with_first : {X : Type 0} (x : X) (all : List X) (part : List X) (parts : List (List X)) → IsMergeOf X all (part ∷ parts) → IsMergeOf X (x ∷ all) ((x ∷ part) ∷ parts)
with_first x all part parts merge = (merge.0, from_first x all part merge.0 merge.1, merge.2)

root_children : (d : Document) (base : List ℕ) → (root d).base ≡ Ok base → children_of (root d) ≡ map (child_place [] base) (map (with_draft d.draft) (children d.draft d.tree))
root_children d base is = ap (λ b. children_with b (root d)) is

pub places_merge : (top : Document) (es : List (ℕ × Document)) → (root top).base ≡ Ok (base_uri top) → InKeyOrder top.tree → HasRoomFor top es → AllPut top es
    → IsMergeOf Place (places (joined top es)) (places_of_root top (bundle_of top es) ∷ map (places_of_embedded top) es)
places_merge top es base sorted room put =
    let n = deep es + (depth top.tree + depth (tree_with top es)) in
    let outer = base_uri top in
    let children_merge = map_each (child_place [] outer) (map (with_draft top.draft) (children top.draft (tree_with top es))) (map (with_draft top.draft) (children top.draft top.tree) ∷ map (map (with_draft top.draft)) (each_single (definitions_keyword top.draft) (map (member_of top.draft) es)))
    (map_each (with_draft top.draft) (children top.draft (tree_with top es)) (children top.draft top.tree ∷ each_single (definitions_keyword top.draft) (map (member_of top.draft) es)) (root_merge top es sorted room)) in
    let mine = map (child_place [] outer) (map (with_draft top.draft) (children top.draft (tree_with top es))) in
    let own = map (child_place [] outer) (map (with_draft top.draft) (children top.draft top.tree)) in
    let all = merge_with_levels n mine (own ∷ map (map (child_place [] outer)) (map (map (with_draft top.draft)) (each_single (definitions_keyword top.draft) (map (member_of top.draft) es)))) children_merge in
    let whole : with_levels n mine ≡ drop 1 (places (joined top es)) =
    ap (λ l. l ++ levels_below n l) (sym (append-nil mine ∙ refl) ∙ ap (λ cs. cs ++ []) (sym (root_children (joined top es) outer (same_base top es ∙ base))))
    ∙ below_enough (joined top es) (suc n) (omega arith) in
    let root_part : with_levels n own ≡ drop 1 (places top) =
    ap (λ l. l ++ levels_below n l) (sym (append-nil own) ∙ ap (λ cs. cs ++ []) (sym (root_children top outer base)))
    ∙ below_enough top (suc n) (omega arith) in
    let others = singles_are top es n (all_deep es n (omega arith)) put in
    subst (λ ps. IsMergeOf Place (root (joined top es) ∷ ps) (places_of_root top (bundle_of top es) ∷ map (places_of_embedded top) es)) whole
    (subst (λ ps. IsMergeOf Place (root (joined top es) ∷ with_levels n mine) ((root (joined top es) ∷ ps) ∷ map (places_of_embedded top) es)) root_part
    (subst (λ parts. IsMergeOf Place (root (joined top es) ∷ with_levels n mine) ((root (joined top es) ∷ with_levels n own) ∷ parts)) others
    (with_first (root (joined top es)) (with_levels n mine) (with_levels n own) (map (with_levels n) (map (map (child_place [] outer)) (map (map (with_draft top.draft)) (each_single (definitions_keyword top.draft) (map (member_of top.draft) es))))) all)))
