-- Trees with members that are put into them.
use Rattle.std.proofs.Common.{◌≡◌, ℕ, List, [], ◌∷◌, ◌++◌, map, length, Bool, true, false, cond, not, Option, Some, None, String, string_bytes, string_cmp, Global, refl, ap, ◌∙◌}
use Rattle.std.specs.Option.{option_or}
use Rattle.std.specs.BTreeMap.{insert_entry}
use Rattle.serde_json.specs.Data.{Data, Members, object, put}
use Rattle.serde_json.specs.View.{view, members_view}
use Rattle.serde_json.specs.declared.value.Value.{Value}
use Rattle.serde_json.proofs.Views.{Entry, members_view-insert_entry}
use Rattle.ref_definitions.specs.World.{Document}
use Rattle.ref_draft.specs.Children.{is_object}
use Rattle.ref_bundle.specs.Embedding.{Obstacle, is_beside_ref, has_no_identifier, obstacle, with_member}
use Rattle.ref_bundle.specs.Bundle.{with_all, member_of, definitions_keyword, definitions_of, tree_with}
use Rattle.ref_bundle.specs.inner.Seen.{numbered_part}
use Rattle.ref_bundle.specs.declared.embedding.Part.{Part}
use Rattle.ref_bundle.specs.inner.Obstacles.{tree_obstacle, uri_obstacle}

-- a member that was inserted
pub inserted : (new old : List Entry) (k : String Global) (v : Value) (key : List ℕ) (d : Data) → new ≡ insert_entry string_cmp old k v → string_bytes k ≡ key → view v ≡ d
    → members_view new ≡ put key d (members_view old)
inserted new old k v key d is same value =
    ap members_view is ∙ members_view-insert_entry old k v ∙ ap (λ t. put t (view v) (members_view old)) same ∙ ap (λ e. put key e (members_view old)) value

-- members that are put after others
pub with_more : (es : List (List ℕ × Data)) (e : List ℕ × Data) (ms : Members) → with_all (es ++ e ∷ []) ms ≡ with_all (e ∷ []) (with_all es ms)
with_more [] e ms = refl
with_more (x ∷ es) e ms = with_more es e (put x.0 x.1 ms)

-- a tree with documents is the root's with that member
pub tree_is : (top : Document) (parts : List Part) → (length parts ≡ 0 → ⊥)
    → tree_with top (map numbered_part parts) ≡ with_member (definitions_keyword top.draft) (object (with_all (map (λ p. member_of top.draft (numbered_part p)) parts) (definitions_of top))) top.tree
tree_is top [] some = absurd (some refl)
tree_is top (p ∷ ps) some =
    ap (λ es. with_member (definitions_keyword top.draft) (object (with_all (member_of top.draft (numbered_part p) ∷ es) (definitions_of top))) top.tree) (twice (member_of top.draft) ps)
  where
    twice : (f : ℕ × Document → List ℕ × Data) (ps : List Part) → map f (map numbered_part ps) ≡ map (λ p. f (numbered_part p)) ps
    twice f [] = refl
    twice f (p ∷ ps) = ap (λ l. f (numbered_part p) ∷ l) (twice f ps)

-- the reasons are those of the tree, and then the others
either : (a b c : Bool) (x y z : Obstacle) (rest : Option Obstacle)
    → cond a (Some x) (cond b (Some y) (cond c (Some z) rest)) ≡ option_or (cond a (Some x) (cond b (Some y) (cond c (Some z) None))) rest
either true b c x y z rest = refl
either false true c x y z rest = refl
either false false true x y z rest = refl
either false false false x y z rest = refl

pub obstacle_is : (top d : Document) → obstacle top d ≡ option_or (tree_obstacle d) (uri_obstacle top d)
obstacle_is top d = either (not (is_object d.tree)) (is_beside_ref d) (has_no_identifier d) _ _ _ (uri_obstacle top d)
