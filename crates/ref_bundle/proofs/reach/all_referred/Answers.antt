use Rattle.std.proofs.Common.{◌≡◌, ◌++◌, [], ◌∷◌, List, ℕ, Vec, Global, map, ap, sym, ◌∙◌, arith, rules}
use Rattle.std.proofs.lemmas.List.{map-append}
use Rattle.ref_bundle.specs.Needed.{referred_of}
use Rattle.ref_bundle.specs.Saying.{further_of}
use Rattle.ref_bundle.specs.inner.Seen.{numbered_document, layer_in, HasPlaces}
use Rattle.ref_bundle.specs.declared.own.Own.{Own}
use Rattle.ref_bundle.proofs.Lists.{taken_more, taken_all, all_at}
use Rattle.ref_bundle.proofs.Running.{map_twice}
use Rattle.ref_bundle.proofs.reach.all_referred.Goals as goal

pub referred_of-requires : goal.referred_of-requires
referred_of-requires c =
    let l = c.loop-own in
    all_at HasPlaces c.args.owns.now l.own-index c.own-item.result c.requires.own.places c.loop-own-test.true c.own-item.is

pub loop-own-preserved : goal.loop-own-preserved
loop-own-preserved c =
    let owns = c.args.owns.now in
    let layer = layer_in owns in
    let own = c.own-item.result in
    let l = c.loop-own in
    let f : Own → List ℕ = λ o. referred_of layer (further_of c.args.further.now) (numbered_document o) in
    let items : Vec ℕ Global → List ℕ = λ n. n.items in
    let pushed : c.push.new.self.items ≡ l.lists.items ++ c.in_ok-referred_of.field-0 ∷ [] = search rules in
    let list : c.in_ok-referred_of.field-0.items ≡ f own = c.in_ok-referred_of.ensures layer c.requires.tables in
    ap (map items) pushed ∙ map-append items l.lists.items (c.in_ok-referred_of.field-0 ∷ []) ∙ ap (λ n. map items l.lists.items ++ n ∷ []) list
    ∙ ap (λ ns. ns ++ f own ∷ []) l.invariant ∙ sym (taken_more f owns l.own-index own c.loop-own-test.true c.own-item.is)

pub returns : goal.returns
returns c =
    let owns = c.args.owns.now in
    let layer = layer_in owns in
    let of = referred_of layer (further_of c.args.further.now) in
    let f : Own → List ℕ = λ o. of (numbered_document o) in
    record { value = c.loop-own.invariant ∙ taken_all f owns c.loop-own.own-index (omega arith) ∙ map_twice of numbered_document owns ∙ ap (map of) c.requires.own.order }
