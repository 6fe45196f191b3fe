use Rattle.std.proofs.Common.{rules, ◌≡◌, ◌∙◌, sym, ap, ◌∷◌, bytes_eq}
use Rattle.std.specs.HashMap.{get}
use Rattle.std.specs.Map.{update_all}
use Rattle.std.specs.Vec.Iter.{into_iter_items}
use Rattle.ref_error.proofs.Lasts.{put_alike}
use Rattle.ref_error.proofs.retriever.last_of.Goals as goal

pub loop-uri-preserved : goal.loop-uri-preserved
loop-uri-preserved c =
    let rest = into_iter_items c.next.new.self in
    let steps : into_iter_items c.loop-uri.uri-iterator ≡ (c.in-Some.uri, c.in-Some.value) ∷ rest = c.in-Some.ensures.steps.0 in
    (λ wanted. put_alike _ _ rest wanted c.in_ok-put.ensures ∙ ap (λ l. update_all bytes_eq (get bytes_eq c.loop-uri.documents) l wanted) (sym steps) ∙ c.loop-uri.invariant.0 wanted, search rules)
