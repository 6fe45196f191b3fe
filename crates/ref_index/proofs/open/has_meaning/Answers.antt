use Rattle.std.proofs.Common.{◌≡◌, ◌∙◌, sym, ap, map, is_some, ◌||◌, rules}
use Rattle.ref_definitions.specs.Resources.{meant_place}
use Rattle.ref_index.proofs.Opening.{meant_or}
use Rattle.ref_index.proofs.open.has_meaning.Goals as goal

pub returns-then-contains : goal.returns-then-contains
returns-then-contains c = record {
  value = λ layer held holds same.
      let parents = map (λ p. p.now) c.args.parents.now in
      let meant = meant_or layer parents c.args.found.now held c.args.uri.now c.contains.result holds same c.contains.ensures in
      c.if-contains.true ∙ sym (meant ∙ ap (λ b. b || is_some (meant_place parents c.args.uri.now.value)) c.if-contains.true);
}

pub returns-else-contains : goal.returns-else-contains
returns-else-contains c = record {
  value = λ layer held holds same.
      let uri = c.args.uri.now.value in
      let parents = map (λ p. p.now) c.args.parents.now in
      let text : c.as_str.result.now ≡ uri = search rules in
      let meant = meant_or layer parents c.args.found.now held c.args.uri.now c.contains.result holds same c.contains.ensures in
      c.is_known_above.ensures ∙ ap (λ u. is_some (meant_place parents u)) text ∙ sym (meant ∙ ap (λ b. b || is_some (meant_place parents uri)) c.if-contains.false);
}
