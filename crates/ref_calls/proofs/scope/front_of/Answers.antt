use Rattle.std.proofs.Common.{◌≡◌, ◌-◌, ℕ, List, length, map, take, sym, ap, ◌∙◌, arith, rules}
use Rattle.std.specs.Borrow.{Bor}
use Rattle.std.proofs.lemmas.List.{length-map, take-map}
use Rattle.std.proofs.lemmas.Result.{IfOk-weaker}
use Rattle.serde_json.specs.Data.{string}
use Rattle.ref_calls.proofs.scope.front_of.Goals as goal

abbrev now_of : Bor (List ℕ) → List ℕ
now_of u = u.now

pub returns : goal.returns
returns c =
    let all = c.in_ok-all.all.items in
    let behind = c.in_ok-behind.behind.items in
    let uris = c.args.uris.now in
    let end = c.args.end.now in
    let front = c.saturating_sub-front.result in
    let long : length all ≡ length uris = sym (length-map all now_of) ∙ ap length c.in_ok-all.ensures in
    let short : length behind ≡ length end = sym (length-map behind now_of) ∙ ap length c.in_ok-behind.ensures in
    let so_many : front ≡ length all - length behind = search rules in
    let many : front ≡ length uris - length end = omega (arith, so_many, long, short) in
    let lent : c.as_slice.result.now ≡ all = search rules in
    IfOk-weaker c.texts_of.result _ _
    (λ list is. is ∙ ap (map (λ t. string t)) (ap (λ xs. map now_of (take front xs)) lent ∙ sym (take-map now_of front all) ∙ ap (take front) c.in_ok-all.ensures ∙ ap (λ n. take n uris) many)) c.texts_of.ensures
