use Rattle.std.proofs.Common.{◌≡◌, true, Some, is_some, IfOk, map, option_map, ap, sym, subst, ◌∙◌, rules}
use Rattle.serde_json.specs.Find.{as_object}
use Rattle.serde_json.specs.View.{view}
use Rattle.ref_bundle.specs.Bundle.{map_refusals}
use Rattle.ref_bundle.specs.Saying.{refusal_said}
use Rattle.ref_bundle.specs.inner.Seen.{numbered_part}
use Rattle.ref_bundle.specs.inner.First.{first}
use Rattle.ref_bundle.proofs.Firsts.{map_is}
use Rattle.ref_bundle.proofs.refusing.map_refusal.Goals as goal

pub returns : goal.returns
returns c =
    let value = view c.in-Some.value.now in
    let es = map numbered_part c.args.parts.now in
    let object : is_some (as_object value) ≡ true = search rules in
    let given : option_map (λ v. view v.now) c.args.value ≡ Some value = search rules in
    let is = ap first (map_is c.args.top c.args.keyword.now value es object) ∙ sym (ap (λ o. first (map_refusals c.args.top c.args.keyword.now o es)) given) in
    subst (λ t. IfOk c.taken.result (λ o. option_map refusal_said o ≡ t)) is c.taken.ensures
