use Rattle.std.proofs.Common.{◌≡◌, [], ◌∷◌, ◌++◌, map, sym, ap, ◌∙◌, rules}
use Rattle.serde_json.specs.View.{view}
use Rattle.ref_parts.specs.Pointer.{tokens}
use Rattle.ref_paths.specs.Segment.{part_of}
use Rattle.ref_resolver.specs.Locations.{parts_along}
use Rattle.ref_resolver.proofs.Pointing.{tokens_turn, tokens_last}
use Rattle.ref_resolver.proofs.Standing.{last_part}
use Rattle.ref_resolver.proofs.location.push_parts.Goals as goal

pub loop-token-preserved : goal.loop-token-preserved
loop-token-preserved c =
    let l = c.loop-token in
    let cut = rw c.in-Some.is at c.cut_at_slash.ensures in
    let texts : tokens l.rest.now ≡ c.in-Some.token.now ∷ tokens c.in-Some.more.now = tokens_turn l.rest.now c.in-Some.token.now c.in-Some.more.now cut.0 cut.1 in
    (λ pointer. rw c.in-Some-2.is at c.in_ok-next.ensures pointer (tokens c.in-Some.more.now) ∙ ap (λ ts. map part_of l.path.items ++ parts_along pointer (view l.value.now) ts) (sym texts) ∙ l.invariant.0 pointer, search rules)

pub returns-in_default-2 : goal.returns-in_default-2
returns-in_default-2 c = λ pointer.
    let l = c.loop-token in
    let cut = rw c.in-Some.is at c.cut_at_slash.ensures in
    let texts : tokens l.rest.now ≡ c.in-Some.token.now ∷ tokens c.in-Some.more.now = tokens_turn l.rest.now c.in-Some.token.now c.in-Some.more.now cut.0 cut.1 in
    rw c.in_default-2.is at c.in_ok-next.ensures pointer (tokens c.in-Some.more.now) ∙ ap (λ ts. map part_of l.path.items ++ parts_along pointer (view l.value.now) ts) (sym texts) ∙ l.invariant.0 pointer

pub returns : goal.returns
returns c = λ pointer.
    let l = c.loop-token in
    let none = rw c.in_default.is at c.cut_at_slash.ensures in
    let last : tokens l.rest.now ≡ l.rest.now ∷ [] = tokens_last l.rest.now none in
    last_part (map part_of l.path.items) (map part_of c.push_part-2.new.path.items) pointer (view l.value.now) l.rest.now c.in_ok-push_part.field-0 (c.in_ok-push_part.ensures pointer [])
    ∙ ap (λ ts. map part_of l.path.items ++ parts_along pointer (view l.value.now) ts) (sym last) ∙ l.invariant.0 pointer
