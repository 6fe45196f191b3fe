-- What documents keep between which nothing differs.
use Rattle.std.specs.Prelude.{◌≡◌, ℕ, List, [], map, is_some, codes, Some, IsTrue}
use Rattle.std.specs.List.{AllByRecursion, Contains}
use Rattle.ref_draft.specs.Schema.{text_under}
use Rattle.ref_changes.specs.Answers.{Change, Fails, answer, answer_from, resource_at, is_kept}
use Rattle.ref_changes.specs.Sites.{Site, sites, site_after}
use Rattle.ref_changes.specs.Changes.{differences, reference_keywords}

-- a place before and the one where it moved, whose base means a resource, as that of each place of a registry does
pub record IsMoved (c : Change) (e : Site × Site) : Type 0 where
  pub before : Contains (sites c.before) e.0
  pub after : site_after c.moves (sites c.after) e.0 ≡ Some e.1
  pub means : IsTrue (is_some (resource_at c.before e.0.base))

-- each place is somewhere after
abbrev pub PlacesStay : Type 0
PlacesStay =
    (c : Change) → differences c ≡ [] → (s : Site) → Contains (sites c.before) s
    → (t : Site) × (site_after c.moves (sites c.after) s ≡ Some t)

-- A reference of a place leads from where the place moved to where what it led to moved, of the same draft and with the same base
-- once it is entered, or fails by a fault of the same name: under every dynamic scope, which is a list of places whose resources were
-- passed. Only a reference that fails since a text means no URI is told of without a scope alone.
abbrev pub KeepsReferences : Type 0
KeepsReferences =
    (c : Change) → differences c ≡ [] → (s t : Site) → IsMoved c (s, t) → (keyword text : List ℕ)
    → Contains (reference_keywords s.draft) keyword → text_under keyword s.value ≡ Some text
    → ¬ (answer c.before s.base text ≡ Fails (codes "InvalidUri"))
    → (scope : List (Site × Site)) → AllByRecursion (IsMoved c) scope
    → (now : List ℕ) × (text_under keyword t.value ≡ Some now)
    × IsTrue
    (is_kept c
    (answer_from c.before (record { base = s.base; scope = map (λ e. e.0.base) scope }) text)
    (answer_from c.after (record { base = t.base; scope = map (λ e. e.1.base) scope }) now))
