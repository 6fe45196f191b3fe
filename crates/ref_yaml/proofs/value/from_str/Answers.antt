use Rattle.std.proofs.Common.{List, ℕ, [], subst}
use Rattle.std.proofs.lemmas.Result.{IfOk-weaker}
use Rattle.serde_json.specs.View.{view}
use Rattle.ref_yaml.specs.Values.{IsValue}
use Rattle.ref_yaml.specs.Documents.{AreEventsOf}
use Rattle.ref_yaml.proofs.value.from_str.Goals as goal

pub returns-in-Ok-clause-tree : goal.returns-in-Ok-clause-tree
returns-in-Ok-clause-tree c =
    let document = c.in-Ok.document in
    let events = document.events.items in
    let within = subst (λ (t : List ℕ). AreEventsOf t events) c.in-Ok.ensures.text (document.within, document.in_place, document.bound) in
    IfOk-weaker c.value.result _ _ (λ v is. (events, within, subst (λ (t : List ℕ). IsValue t events (view v) []) c.in-Ok.ensures.text is)) c.value.ensures.tree
