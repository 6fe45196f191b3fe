use Rattle.std.proofs.Common.{rules, ◌≡◌, ◌+◌, [], ◌∷◌, ◌++◌, map, take, None, Some, sym, ap, ◌∙◌, append-nil}
use Rattle.std.proofs.lemmas.List.{take_more}
use Rattle.std.specs.List.{filter, filter_map}
use Rattle.std.specs.Option.{option_to_list}
use Rattle.referencing.specs.ListedPlaces.{listed_of}
use Rattle.uses.specs.Bundling.{refers_to, is_of}
use Rattle.uses.specs.inner.Referring.{refers_from}
use Rattle.uses.proofs.Bundling.{one_more}
use Rattle.uses.proofs.bundler.referred_documents.Goals as goal
use Rattle.uses.proofs.bundler.referred_documents.Goals.{in-Some+in_ok-push, in_default}

pub loop-place-preserved : goal.loop-place-preserved
loop-place-preserved c =
    let number = c.args.document in
    let f = refers_to in
    let test = is_of number in
    let places = c.deref-place-items.result.now in
    let at = c.loop-place.place-index in
    let place = c.place-item.result in
    let so_far = filter_map f (filter test (map listed_of (take at places))) in
    let more : filter_map f (filter test (map listed_of (take (at + 1) places))) ≡ so_far ++ option_to_list (refers_from number (listed_of place)) =
    ap (λ ps. filter_map f (filter test (map listed_of ps))) (take_more places at place c.loop-place-test.true ∙ ap (λ p. take at places ++ p ∷ []) (sym c.place-item.is))
    ∙ one_more test f listed_of (take at places) place in
    elim c.match-branch-3.branch [
      | in-Some+in_ok-push w ↦
          let found : refers_from number (listed_of place) ≡ Some w.in-Some.uri = sym c.in_ok-uri.ensures ∙ w.in-Some.is in
          rw w.uris-is (w.in_ok-push.ensures ∙ ap (λ us. us ++ w.in-Some.uri ∷ []) c.loop-place.invariant ∙ sym (more ∙ ap (λ o. so_far ++ option_to_list o) found))
      | in_default w ↦
          let none : refers_from number (listed_of place) ≡ None = search rules in
          rw w.uris-is (c.loop-place.invariant ∙ sym (more ∙ ap (λ o. so_far ++ option_to_list o) none ∙ append-nil so_far))
    ]
