use Rattle.std.proofs.Common.{◌≡◌, ◌∙◌, false, string_bytes, ap, sym}
use Rattle.serde_json.specs.Find.{get, get_member}
use Rattle.serde_json.specs.View.{view, members_view}
use Rattle.ref_draft.specs.Keywords.{is_one_of}
use Rattle.ref_rules.specs.Tables.{of_others}
use Rattle.ref_rules.proofs.Suspects.{object_from, found_past}
use Rattle.ref_rules.proofs.suspect.has_other.Goals as goal

pub loop-key-init : goal.loop-key-init
loop-key-init c = λ k one.
    let entries = c.into_iter-key-iterator.ensures.into_iter_gives in
    ap (λ es. get_member k (members_view es)) entries.0
    ∙ sym (ap (get k) (object_from (view c.args.place.value.now) (members_view c.in-Some.members.now.entries) c.in-Some.ensures))

pub loop-key-preserved : goal.loop-key-preserved
loop-key-preserved c = λ k one.
    let ks = of_others c.args.place.draft in
    let key = string_bytes c.in-Some-2.key.now in
    let none : is_one_of key ks ≡ false = ap (λ l. is_one_of l ks) (sym c.as_str.ensures.value) ∙ sym c.is_other.ensures ∙ c.if-is_other.false in
    let at = rw c.in-Some-2.ensures.steps at c.loop-key.invariant k one in
    found_past k key _ _ ks one none ∙ at
