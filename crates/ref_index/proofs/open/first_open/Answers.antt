use Rattle.std.proofs.Common.{◌≡◌, ◌<◌, ◌∙◌, sym, ap, subst, map, length, ◌∷◌, true, false, not, arith, rules}
use Rattle.std.proofs.lemmas.List.{length-map}
use Rattle.ref_definitions.specs.Wants.{is_open}
use Rattle.ref_index.specs.inner.Found.{want_of}
use Rattle.std.specs.Prelude.{slice_get}
use Rattle.ref_index.proofs.Opening.{mapped_at, one_more_met, none_past}
use Rattle.ref_index.proofs.open.first_open.Goals as goal

pub loop-number-preserved : goal.loop-number-preserved
loop-number-preserved c =
    let i = c.loop-number.number in
    let items = c.args.found.now.wants.items in
    let w = c.index-want.result.now in (
      omega arith,
      omega arith,
      λ layer held holds known.
          let parents = map (λ p. p.now) c.args.parents.now in
          let within : i < length items = omega arith in
          let there : c.has_meaning.result ≡ true = search rules in
          let met : is_open (layer ∷ parents) (want_of w) ≡ false =
          ap not (sym (c.has_meaning.ensures.value layer held holds known)) ∙ ap not there in
          one_more_met (λ v. is_open (layer ∷ parents) v ≡ false) c.args.from i items held.wants w want_of holds.wanted c.loop-number.invariant.0 within c.index-want.ensures met (c.loop-number.invariant.2 layer held holds known),
    )

pub returns-clause-open : goal.returns-clause-open
returns-clause-open c = λ layer held w holds known here.
    none_past held.wants c.loop-number.number w (is_open (layer ∷ map (λ p. p.now) c.args.parents.now) w ≡ true) (omega (arith, length-map c.args.found.now.wants.items want_of, ap length holds.wanted)) here

pub returns-then-not-has_meaning-clause-open : goal.returns-then-not-has_meaning-clause-open
returns-then-not-has_meaning-clause-open c = λ layer held w holds known here.
    let parents = map (λ p. p.now) c.args.parents.now in
    let i = c.loop-number.number in
    let items = c.args.found.now.wants.items in
    let v = c.index-want.result.now in
    let within : i < length items = omega arith in
    let none : c.has_meaning.result ≡ false = search rules in
    let unmet : is_open (layer ∷ parents) (want_of v) ≡ true =
    ap not (sym (c.has_meaning.ensures.value layer held holds known)) ∙ ap not none in
    let same : want_of v ≡ w = mapped_at want_of items i v w within c.index-want.ensures (ap (λ l. slice_get l i) holds.wanted ∙ here) in
    subst (λ x. is_open (layer ∷ parents) x ≡ true) same unmet
