use Rattle.std.proofs.Common.{◌≡◌, ◌++◌, ◌∷◌, [], Some, None, slice_get, option_map, map, ap, sym, ◌∙◌, rules}
use Rattle.std.proofs.lemmas.List.{map-append}
use Rattle.ref_reach.specs.Views.{place_of}
use Rattle.ref_bundle.specs.Saying.{seen_spot}
use Rattle.ref_further.specs.Further.{seen_of}
use Rattle.ref_further.proofs.Groups.{got_by, added_to, added_nowhere}
use Rattle.ref_further.proofs.grouping.add.Goals as goal

pub returns-in_ok-push-clause-added : goal.returns-in_ok-push-clause-added
returns-in_ok-push-clause-added c = λ n less.
    let groups = c.args.groups.now.items in
    let place = place_of c.args.place.now in
    let before = c.in-Some.group.now in
    let some : c.get_mut.result ≡ Some c.in-Some.group = search rules in
    let there : slice_get groups place.document ≡ Some before = sym (got_by (λ x. x.now) groups place.document c.get_mut.result c.get_mut.ensures.item) ∙ ap (option_map (λ x. x.now)) some in
    let more : map seen_spot c.push.new.self.items ≡ map seen_spot before.items ++ seen_of place ∷ [] =
    ap (map seen_spot) c.in_ok-push.ensures.items ∙ map-append seen_spot before.items (c.in_ok-spot.spot ∷ []) ∙ ap (λ s. map seen_spot before.items ++ s ∷ []) c.in_ok-spot.ensures in
    added_to groups place.document before c.push.new.self (seen_of place) there more n

pub returns-in_default-clause-added : goal.returns-in_default-clause-added
returns-in_default-clause-added c = λ n less.
    let groups = c.args.groups.now.items in
    let place = place_of c.args.place.now in
    let missing : c.get_mut.result ≡ None = search rules in
    let none : slice_get groups place.document ≡ None = sym (got_by (λ x. x.now) groups place.document c.get_mut.result c.get_mut.ensures.item) ∙ ap (option_map (λ x. x.now)) missing in
    added_nowhere groups place.document (seen_of place) none n less
