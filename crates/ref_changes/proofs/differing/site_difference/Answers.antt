use Rattle.std.proofs.Common.{◌≡◌, map, option_map, sym, ap, ◌∙◌}
use Rattle.ref_changes.specs.Changes.{first}
use Rattle.ref_changes.specs.Views.{change_of, site_of_place, what_of}
use Rattle.ref_changes.proofs.Telling.{told, site_told}
use Rattle.ref_changes.proofs.differing.site_difference.Goals as goal
use Rattle.ref_changes.proofs.differing.site_difference.Goals.{in-Some+in_ok-what-in-Some, in-None}

pub returns : goal.returns
returns c =
    let change = change_of c.args.change.now in
    let s = site_of_place c.args.place.now in
    let after = map site_of_place c.args.after.now.places.now in
    let found = option_map (λ p. site_of_place p.now) c.in_ok-now.field-0 in
    let whats : option_map what_of c.match-branch-2.what ≡ first (told change s found) =
    elim c.match-branch-2.branch [
      | in-Some+in_ok-what-in-Some w ↦ ap (option_map what_of) w.what-is ∙ w.in_ok-what-in-Some.ensures ∙ ap (λ o. first (told change s (option_map (λ p. site_of_place p.now) o))) (sym w.in-Some.is)
      | in-None w ↦ ap (option_map what_of) w.what-is ∙ ap (λ o. first (told change s (option_map (λ p. site_of_place p.now) o))) (sym w.in-None.is)
    ] in
    record { value = site_told c.difference_at.result change after s found c.match-branch-2.what c.in_ok-now.ensures.value whats c.difference_at.ensures.value }
