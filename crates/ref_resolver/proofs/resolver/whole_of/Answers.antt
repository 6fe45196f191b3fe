use Rattle.std.proofs.Common.{◌≡◌, ℕ, true, List, [], ◌∷◌, length, Option, Some, None, IfSome, eqb, refl, sym, ◌∙◌, rules}
use Rattle.std.proofs.Math.Dec.{eqb-suc-zero}
use Rattle.std.proofs.lemmas.Bool.{false≢true}
use Rattle.ref_resolver.specs.declared.located.Located.{Located}
use Rattle.ref_resolver.proofs.resolver.whole_of.Goals as goal

empty_by : (xs : List ℕ) → eqb (length xs) 0 ≡ true → xs ≡ []
empty_by [] is = refl
empty_by (x ∷ xs) is = absurd (false≢true (sym (eqb-suc-zero (length xs)) ∙ is))

known_there : (known : Option Located) (text : List ℕ) → text ≡ [] → IfSome known (λ place. (known ≡ Some place) × (text ≡ []))
known_there None text is = tt
known_there (Some place) text is = (refl, is)

pub returns-then-is_empty : goal.returns-then-is_empty
returns-then-is_empty c = known_there c.args.known c.args.fragment.now (empty_by c.args.fragment.now (sym c.is_empty.ensures ∙ c.if-is_empty.true))
