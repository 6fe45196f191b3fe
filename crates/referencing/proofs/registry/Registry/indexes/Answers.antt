use Rattle.std.proofs.Common.{◌≡◌, ◌<◌, ◌+◌, ◌++◌, ◌∷◌, [], ℕ, List, map, drop, length, get_or, sym, ap, ◌∙◌, append_assoc}
use Rattle.std.proofs.lemmas.List.{at_drop_more, map-append}
use Rattle.referencing.proofs.registry.Registry.indexes.Goals as goal

one_more : {X Y : Type 0} (f : X → Y) (front back : List X) (i : ℕ) (x : X) → i < length back → x ≡ get_or back i x → map f (front ++ x ∷ []) ++ map f (drop (i + 1) back) ≡ map f front ++ map f (drop i back)
one_more f front back i x within is =
    let at : map f (drop i back) ≡ f x ∷ map f (drop (i + 1) back) = at_drop_more (λ l. map f l) back i x within ∙ ap (λ y. f y ∷ map f (drop (i + 1) back)) (sym is) in
    ap (λ l. l ++ map f (drop (i + 1) back)) (map-append f front (x ∷ [])) ∙ append_assoc (map f front) (f x ∷ []) (map f (drop (i + 1) back)) ∙ ap (λ l. map f front ++ l) (sym at)

pub loop-parent-preserved : goal.loop-parent-preserved
loop-parent-preserved c =
    let back = c.deref-parent-items.result.now in
    let i = c.loop-parent.parent-index in
    ap (λ l. map (λ p. p.now) l ++ map (λ p. p.now) (drop (i + 1) back)) c.in_ok-push-2.ensures.items
    ∙ one_more (λ p. p.now) c.loop-parent.indexes.items back i c.parent-item.result c.loop-parent-test.true c.parent-item.is ∙ c.loop-parent.invariant
