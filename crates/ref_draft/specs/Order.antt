-- The order of the drafts.
use Rattle.std.specs.Prelude.{ℕ}
use Rattle.ref_draft.specs.declared.draft.Draft.{Draft}
use Rattle.ref_draft.specs.declared.draft.Draft.TheVariants.{Draft4, Draft6, Draft7, Draft201909, Draft202012, Unknown}

-- a draft's place: by age, and a custom meta-schema last
abbrev pub rank : Draft → ℕ
rank Draft4 = 0
rank Draft6 = 1
rank Draft7 = 2
rank Draft201909 = 3
rank Draft202012 = 4
rank Unknown = 5
