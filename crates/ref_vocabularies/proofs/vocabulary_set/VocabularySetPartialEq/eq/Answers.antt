use Rattle.std.proofs.Common.{◌≡◌, [], false, nat_eq, sym, ◌∙◌, ap, arith}
use Rattle.std.specs.Option.{option_map_or}
use Rattle.std.proofs.lemmas.Bool.Decides.{nat_tests}
use Rattle.ref_vocabularies.specs.inner.Kept.{known_of}
use Rattle.ref_vocabularies.proofs.Bits.{set_eq-same, set_eq-other}
use Rattle.ref_vocabularies.proofs.vocabulary_set.VocabularySetPartialEq.eq.Goals as goal

pub returns-then-self-other : goal.returns-then-self-other
returns-then-self-other c =
    let same : c.args.self.now.standard ≡ c.args.other.now.standard = rw (← c.self.view_is, ← c.other.view_is) (ap known_of c.if-self-other.true) in
    c.eq.ensures ∙ rw (c.uris.ensures.value, c.uris-then-self-other.ensures.value) (sym (set_eq-same c.args.self.now c.args.other.now same))

pub returns-else-self-other : goal.returns-else-self-other
returns-else-self-other c =
    let a = c.self.inside.known in
    let b = c.other.inside.known in
    let other : nat_eq a b ≡ false = grind (arith, nat_tests) in
    rw (← c.self.view_is, ← c.other.view_is)
    (other ∙ sym (set_eq-other a b (option_map_or (λ uris. uris.items) c.self.inside.custom []) (option_map_or (λ uris. uris.items) c.other.inside.custom []) c.self.invariant.0 c.other.invariant.0 c.if-self-other.false))
