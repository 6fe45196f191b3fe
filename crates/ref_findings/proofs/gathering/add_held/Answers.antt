use Rattle.std.proofs.Common.{◌≡◌, ◌∙◌, ◌∷◌, map, flat_map, ap, subst, rules}
use Rattle.std.specs.Prelude.{OnOk}
use Rattle.std.specs.Option.{option_to_list}
use Rattle.serde_json.specs.View.{view}
use Rattle.ref_definitions.specs.Resources.{own_uri}
use Rattle.ref_findings.specs.Places.{document, places_near}
use Rattle.ref_findings.specs.Gathered.{wanted_at}
use Rattle.ref_findings.specs.inner.Seen.{place_of}
use Rattle.ref_findings.specs.inner.Wanted.{Grows}
use Rattle.ref_findings.proofs.gathering.add_held.Goals as goal

pub returns : goal.returns
returns c =
    let held = c.args.held.now in
    let lent : c.as_slice.result.now ≡ c.in_ok-places.places.items = search rules in
    let are : map place_of c.as_slice.result.now ≡ places_near (document c.args.draft held.uri (view held.value)) =
    ap (map place_of) lent ∙ c.in_ok-places.ensures.value in
    subst
    (λ ps. OnOk c.add_document.result (Grows c.args.wants.now c.add_document.new.self (held.uri ∷ flat_map (λ p. option_to_list (own_uri p)) ps) (flat_map wanted_at ps)))
    are c.add_document.ensures
