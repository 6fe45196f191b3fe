use Rattle.std.proofs.Common.{◌≡◌, ◌++◌, ◌∷◌, [], map, ap, sym, ◌∙◌, rules}
use Rattle.std.proofs.lemmas.List.{map-append}
use Rattle.ref_bundle.specs.inner.Seen.{put_last}
use Rattle.ref_bundle.specs.Saying.{seen_spot}
use Rattle.ref_bundle.proofs.Gathering.{put_last_is, items}
use Rattle.ref_bundle.proofs.own.put_last.Goals as goal

pub returns-in_ok-push-2 : goal.returns-in_ok-push-2
returns-in_ok-push-2 c =
    let before = c.pop.new.self.items in
    let old = c.in-Some.group in
    let new = c.push.new.self in
    let x = seen_spot c.args.spot in
    let split : c.args.groups.now.items ≡ before ++ old ∷ [] = search rules in
    let last : new.items ≡ old.items ++ c.args.spot ∷ [] = search rules in
    let all : c.push-in-Some.new.self.items ≡ before ++ new ∷ [] = search rules in
    ap (map items) all ∙ map-append items before (new ∷ [])
    ∙ ap (λ l. map items before ++ map seen_spot l ∷ []) last
    ∙ ap (λ l. map items before ++ l ∷ []) (map-append seen_spot old.items (c.args.spot ∷ []))
    ∙ sym (put_last_is (map items before) (items old) x)
    ∙ ap (λ l. put_last l x) (sym (map-append items before (old ∷ [])) ∙ sym (ap (map items) split))
