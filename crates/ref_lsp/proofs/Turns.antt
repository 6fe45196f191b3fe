-- The later of several turns.
use Rattle.std.proofs.Common.{◌≡◌, ℕ, Option, Some, None, refl, arith}
use Rattle.std.proofs.lemmas.Grind.{common_steps}
use Rattle.ref_lsp.specs.Turns.{later}

of_three : (a b c : ℕ × ℕ) → later (later (Some a) (Some b)) (Some c) ≡ later (Some a) (later (Some b) (Some c))
of_three a b c = grind (arith, common_steps)

-- which comes first of three of them doesn't matter
pub later_later : (a b c : Option (ℕ × ℕ)) → later (later a b) c ≡ later a (later b c)
later_later None b c = refl
later_later (Some a) None c = refl
later_later (Some a) (Some b) None = without a b
  where
    without : (a b : ℕ × ℕ) → later (later (Some a) (Some b)) None ≡ later (Some a) (Some b)
    without a b = grind (arith, common_steps)
later_later (Some a) (Some b) (Some c) = of_three a b c
