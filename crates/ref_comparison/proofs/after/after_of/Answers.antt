use Rattle.std.proofs.Common.{◌++◌, map, refl, ap, ◌∙◌}
use Rattle.ref_reach.specs.Knowing.{known_of}
use Rattle.ref_reach.specs.Views.{place_of}
use Rattle.ref_comparison.specs.inner.Grouped.{Lists, placed_at, group_in}
use Rattle.ref_comparison.proofs.Groups.{in_three, no_numbers}
use Rattle.ref_comparison.proofs.after.after_of.Goals as goal

pub returns : goal.returns
returns c =
    let known = known_of c.args.survey.now.documents in
    let own = map place_of c.own-own.result.now in
    let described = map place_of c.described-described.result.now in
    let led = map place_of c.led-led.result.now in
    let lists : Lists = record { own = own; described = described; led = led } in
    record {
      places =
          ap (λ l. l ++ described ++ led) c.own-own.ensures.value ∙ ap (λ l. known.own ++ l ++ led) c.described-described.ensures.value
          ∙ ap (λ l. known.own ++ map place_of c.args.survey.now.described.items ++ l) c.led-led.ensures.value;
      grouped = λ q.
          in_three (placed_at q) (group_in lists c.new-numbers.result q) (group_in lists c.add_all.new.numbers q) (group_in lists c.add_all-2.new.numbers q) (group_in lists c.add_all-3.new.numbers q) own described led
          (no_numbers lists c.new-numbers.result c.new-numbers.ensures.empty q) (c.in_ok-add_all.ensures lists refl q) (c.in_ok-add_all-2.ensures lists refl q) (c.in_ok-add_all-3.ensures lists refl q);
    }
