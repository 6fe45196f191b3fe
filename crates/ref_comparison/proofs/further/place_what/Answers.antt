use Rattle.std.proofs.Common.{◌≡◌, false, flat_map, subst, ap, ◌∙◌, rules}
use Rattle.ref_reach.specs.Views.{place_of}
use Rattle.ref_changes.specs.Moves.{image}
use Rattle.ref_changes.specs.Views.{image_view}
use Rattle.ref_comparison.specs.Further.{spot_of, whats_among}
use Rattle.ref_comparison.specs.Views.{sides_of}
use Rattle.ref_comparison.specs.inner.Firsts.{SaysFirst}
use Rattle.ref_comparison.specs.inner.Grouped.{address_text, placed_at, with_number, group_in, lists_in, places_in}
use Rattle.ref_comparison.proofs.Groups.{at_image}
use Rattle.ref_comparison.proofs.further.place_what.Goals as goal

pub returns : goal.returns
returns c =
    let s = sides_of c.args.sides.now in
    let p = place_of c.args.place.now in
    let after = c.args.after.now in
    let there : image_view c.in_ok-image.image ≡ image s.moves (spot_of p) = search rules in
    let text : c.as_str-2.result.now ≡ address_text (image_view c.in_ok-image.image) = search rules in
    let found : flat_map (with_number (lists_in after)) c.numbers_at-numbers.result.now ≡ flat_map (placed_at (address_text (image s.moves (spot_of p)))) (places_in after) =
    ap (flat_map (with_number (lists_in after))) c.numbers_at-numbers.ensures.value
    ∙ ap (group_in (lists_in after) after.numbers) (text ∙ ap address_text there)
    ∙ c.requires (address_text (image s.moves (spot_of p))) in
    subst (SaysFirst c.what_among.result) (ap (λ ps. whats_among s p ps false) found ∙ at_image s p (places_in after) false) c.what_among.ensures
