-- Drafts that are known.
use Rattle.std.proofs.Common.{◌≡◌, false, refl}
use Rattle.ref_draft.specs.declared.draft.Draft.{Draft}
use Rattle.ref_draft.specs.declared.draft.Draft.TheVariants.{Draft4, Draft6, Draft7, Draft201909, Draft202012, Unknown}
use Rattle.ref_draft.specs.Keywords.{is_unknown}

-- a draft that is not unknown
pub known_draft : (d : Draft) → (d ≡ Unknown → ⊥) → is_unknown d ≡ false
known_draft Draft4 other = refl
known_draft Draft6 other = refl
known_draft Draft7 other = refl
known_draft Draft201909 other = refl
known_draft Draft202012 other = refl
known_draft Unknown other = absurd (other refl)
