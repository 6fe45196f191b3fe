use Rattle.std.proofs.Common.{◌≡◌, ℕ, List, true}
use Rattle.serde_json.specs.Find.{get, get_member}
use Rattle.serde_json.specs.View.{members_view}
use Rattle.ref_draft.specs.Keywords.{is_one_of}
use Rattle.ref_rules.specs.Tables.{of_others}
use Rattle.ref_rules.specs.Views.{place_of}
use Rattle.ref_rules.proofs.suspect.has_other.Given as goal

abbrev pub invariant-loop-key : goal.invariant-loop-key
invariant-loop-key l =
    (k : List ℕ) → is_one_of k (of_others l.place.draft) ≡ true
    → get_member k (members_view l.key-iterator) ≡ get k (place_of l.place).value
