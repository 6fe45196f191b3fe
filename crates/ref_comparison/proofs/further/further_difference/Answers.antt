use Rattle.std.proofs.Common.{◌≡◌, ◌++◌, List, map, ap, ◌∙◌}
use Rattle.ref_reach.specs.Places.{Place}
use Rattle.ref_reach.specs.Knowing.{known_of}
use Rattle.ref_reach.specs.Views.{place_of}
use Rattle.ref_further.specs.Surveyed.{surveyed}
use Rattle.ref_changes.specs.Moves.{map_of}
use Rattle.ref_changes.specs.Views.{move_of, moves_in}
use Rattle.ref_comparison.specs.Further.{Sides, Difference, differences}
use Rattle.ref_comparison.specs.Views.{known_in}
use Rattle.ref_comparison.specs.inner.Grouped.{places_in}
use Rattle.ref_comparison.proofs.Telling.{differs}
use Rattle.ref_comparison.proofs.further.further_difference.Goals as goal

pub returns : goal.returns
returns c =
    let before = c.args.before.now in
    let after = c.args.after.now in
    let own = map place_of c.own.result.now in
    let described = map place_of c.described.result.now in
    let led = map place_of c.led.result.now in
    let there = places_in c.in_ok-there.there in
    let table = moves_in c.in_ok-table.table in
    let moves = map_of (map move_of c.args.moves.now) in
    let known = known_of before.documents in
    let told : Sides → List Place → List Place → List Difference = differences in
    let places : own ++ described ++ led ≡ surveyed before =
    ap (λ l. l ++ described ++ led) c.own.ensures.value ∙ ap (λ l. known.own ++ l ++ led) c.described.ensures.value
    ∙ ap (λ l. known.own ++ map place_of before.described.items ++ l) c.led.ensures.value in
    record {
      first =
          differs c.difference_in.result
          (told (record { moves = table; before = known_of c.documents.result.now; after = known_of c.documents-2.result.now }) (own ++ described ++ led) there)
          (told (record { moves = moves; before = known_in before; after = known_in after }) (surveyed before) (surveyed after))
          (ap (λ d. told (record { moves = table; before = known_of d; after = known_of c.documents-2.result.now }) (own ++ described ++ led) there) c.documents.ensures.value
          ∙ ap (λ d. told (record { moves = table; before = known; after = known_of d }) (own ++ described ++ led) there) c.documents-2.ensures.value
          ∙ ap (λ m. told (record { moves = m; before = known; after = known_in after }) (own ++ described ++ led) there) c.in_ok-table.ensures.value
          ∙ ap (λ l. told (record { moves = moves; before = known; after = known_in after }) l there) places
          ∙ ap (told (record { moves = moves; before = known; after = known_in after }) (surveyed before)) c.in_ok-there.ensures.places)
          c.difference_in.ensures;
    }
