use Rattle.std.proofs.Common.{◌≡◌, ◌++◌, Some, None, slice_get, map, ap, sym, ◌∙◌, append-nil, rules}
use Rattle.ref_bundle.specs.Needed.{referred_in, referred_by_seen}
use Rattle.ref_bundle.specs.Saying.{seen_spot}
use Rattle.ref_bundle.specs.inner.Seen.{numbered_document, document_in}
use Rattle.ref_bundle.proofs.Lists.{got}
use Rattle.ref_bundle.proofs.Gathering.{further_there, further_missing}
use Rattle.ref_bundle.proofs.Running.{referred_is}
use Rattle.ref_bundle.proofs.reach.referred_of.Goals as goal

pub returns : goal.returns
returns c = λ layer are.
    let own = c.args.own.now in
    let lent : c.as_slice.result.now ≡ own.places.items = search rules in
    let places = c.in_ok-numbers.ensures layer are ∙ referred_is layer (numbered_document own) (map seen_spot c.as_slice.result.now) (ap (map seen_spot) lent ∙ c.requires) in
    let spots = c.in-Some.spots.now in
    let there : slice_get c.args.further.now own.number ≡ Some spots = sym (got c.args.further.now own.number c.get.result c.get.ensures.lookup) ∙ search rules in
    let also : c.as_slice-2.result.now ≡ spots.items = search rules in
    let more = c.in_ok-more.ensures layer are ∙ ap (referred_by_seen layer) (ap (map seen_spot) also ∙ sym (further_there c.args.further.now own.number spots there)) in
    c.in_ok-append.ensures.items ∙ ap (λ l. l ++ c.in_ok-more.more.items) places ∙ ap (λ l. referred_in layer (document_in own) ++ l) more

pub returns-in_default : goal.returns-in_default
returns-in_default c = λ layer are.
    let own = c.args.own.now in
    let lent : c.as_slice.result.now ≡ own.places.items = search rules in
    let places = c.in_ok-numbers.ensures layer are ∙ referred_is layer (numbered_document own) (map seen_spot c.as_slice.result.now) (ap (map seen_spot) lent ∙ c.requires) in
    let none : slice_get c.args.further.now own.number ≡ None = sym (got c.args.further.now own.number c.get.result c.get.ensures.lookup) ∙ search rules in
    places ∙ sym (append-nil (referred_in layer (document_in own)))
    ∙ ap (λ ss. referred_in layer (document_in own) ++ referred_by_seen layer ss) (sym (further_missing c.args.further.now own.number none))
