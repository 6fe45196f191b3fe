-- Anchors of two values aren't kept where one has more of them.
use Rattle.std.proofs.Common.{◌≡◌, Bool, true, false, ◌&&◌, map, refl}
use Rattle.ref_draft.specs.declared.anchor.Anchor.{Anchor}
use Rattle.ref_draft.specs.declared.anchor.AnchorIter.{AnchorIter}
use Rattle.ref_draft.specs.declared.anchor.AnchorIter.TheVariants.{Empty, One, Two}
use Rattle.ref_draft.specs.Views.{anchor_name, anchors_left}
use Rattle.ref_changes.specs.Answers.{Change}
use Rattle.ref_changes.specs.Sites.{Site}
use Rattle.ref_changes.specs.Changes.{are_anchors_kept, is_anchor_kept}

and_false : (b : Bool) → false ≡ (b && false)
and_false true = refl
and_false false = refl

pub one_alone : (c : Change) (s t : Site) (a : Anchor) (now : AnchorIter) → ((x : Anchor) → now ≡ One x → ⊥)
    → false ≡ are_anchors_kept c s t (map anchor_name (anchors_left (One a))) (map anchor_name (anchors_left now))
one_alone c s t a Empty other = refl
one_alone c s t a (One x) other = absurd (other x refl)
one_alone c s t a (Two x y) other = and_false (is_anchor_kept c s t (anchor_name a) (anchor_name x))

pub two_alone : (c : Change) (s t : Site) (a b : Anchor) (now : AnchorIter) → ((x y : Anchor) → now ≡ Two x y → ⊥)
    → false ≡ are_anchors_kept c s t (map anchor_name (anchors_left (Two a b))) (map anchor_name (anchors_left now))
two_alone c s t a b Empty other = refl
two_alone c s t a b (One x) other = and_false (is_anchor_kept c s t (anchor_name a) (anchor_name x))
two_alone c s t a b (Two x y) other = absurd (other x y refl)
