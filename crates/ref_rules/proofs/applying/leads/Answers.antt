use Rattle.std.proofs.Common.{rules, ◌≡◌, ◌∙◌, ◌-◌, ◌∷◌, length, map, take, drop, option_map, Some, true, ap, sym}
use Rattle.serde_json.specs.View.{view}
use Rattle.ref_paths.specs.Segment.{part_of}
use Rattle.ref_rules.specs.InPlace.{below, is_in_place}
use Rattle.ref_rules.proofs.Applied.{whole_step, inner_step, first_and_rest}
use Rattle.ref_rules.proofs.applying.leads.Goals as goal

pub parts-preserved-then-is_whole : goal.parts-preserved-then-is_whole
parts-preserved-then-is_whole c =
    let d = c.args.draft in
    let rest = c.parts.rest.now in
    let part = c.part-item.result in
    let more = take (length rest - 1) (drop 1 rest) in
    let v = view c.in-Some.schema.now in
    let split : rest ≡ part ∷ more = first_and_rest rest part c.in-len1-up.len_at_least c.part-item.is in
    c.parts.invariant
    ∙ ap (λ o. is_in_place d (option_map (λ w. view w.now) o) (map part_of rest)) c.in-Some.is
    ∙ ap (λ r. is_in_place d (Some v) (map part_of r)) split
    ∙ whole_step d v (part_of part) (map part_of more) (sym c.is_whole.ensures ∙ c.if-is_whole.true)
    ∙ ap (λ o. is_in_place d o (map part_of more)) (sym c.child-at.ensures)

pub parts-preserved : goal.parts-preserved
parts-preserved c =
    let d = c.args.draft in
    let rest = c.parts.rest.now in
    let part = c.part-item.result in
    let more = take (length rest - 1) (drop 1 rest) in
    let inner = c.inner-item.result in
    let further = take (length more - 1) (drop 1 more) in
    let v = view c.in-Some.schema.now in
    let q = part_of inner in
    let qs = map part_of further in
    let split : rest ≡ part ∷ more = first_and_rest rest part c.in-len1-up.len_at_least c.part-item.is in
    let again : more ≡ inner ∷ further = first_and_rest more inner c.in-len1-up-more.len_at_least c.inner-item.is in
    let yes : c.is_inner.result ≡ true = search rules in
    c.parts.invariant
    ∙ ap (λ o. is_in_place d (option_map (λ w. view w.now) o) (map part_of rest)) c.in-Some.is
    ∙ ap (λ r. is_in_place d (Some v) (map part_of r)) split
    ∙ ap (λ r. is_in_place d (Some v) (part_of part ∷ map part_of r)) again
    ∙ inner_step d v (part_of part) q qs (sym c.is_whole.ensures ∙ c.if-is_whole.false) (sym c.is_inner.ensures ∙ yes)
    ∙ ap (λ o. is_in_place d (below o q) qs) (sym c.child.ensures)
    ∙ ap (λ o. is_in_place d o qs) (sym c.below-at.ensures)
