-- What counts of what was found, place by place.
use Rattle.std.proofs.Common.{◌≡◌, ◌⊎◌, inl, inr, ℕ, ◌+◌, ◌<◌, ◌≤◌, List, [], ◌∷◌, ◌++◌, Option, Some, None, length, get_or, set, zero, suc, refl, ap, sym, ◌∙◌, subst, arith, get_or-set_same, get_or-set_other}
use Rattle.std.proofs.lemmas.Bool.{cases_lt}
use Rattle.std.proofs.lemmas.Grind.{common_steps}
use Rattle.ref_positions.specs.Paths.{Step, member, item, Path, number_of}
use Rattle.ref_positions.specs.Parts.{Part, within, key_in, value_in}
use Rattle.ref_positions.specs.Places.{IsTree}
use Rattle.ref_positions.specs.Walks.{not_found, last_at, IsTable, counted, IsCounted, IsCountedBelow, settled_in, settled}
use Rattle.ref_positions.specs.declared.walk.Found.{Found}
use Rattle.std.proofs.Common.{ltb, false}
use Rattle.std.proofs.lemmas.Bool.Decides.{nat_tests}
use Rattle.ref_positions.proofs.Walks.{sound, same_or_not, set_long, low}

-- the whole value has the number 0 alone
not_whole : (paths : List (Option Path)) (i : ℕ) → IsTree paths → 1 ≤ i → get_or paths i None ≡ Some [] → ⊥
not_whole paths i tree first at = let same = tree.distinct i 0 [] at (sound paths [] 0 tree.whole) in omega arith

nothing_in : (v : Option (ℕ × ℕ)) → within v None ≡ None
nothing_in None = refl
nothing_in (Some a) = refl

settled_at : (paths : List (Option Path)) (found : List Found) (ps : List Part) (i above : ℕ) (q : Option Path) → IsTree paths → 1 ≤ i
    → ((s : Step) (p : Path) → q ≡ Some (s ∷ p) → (get_or paths above None ≡ Some p) × (above < i))
    → get_or paths i None ≡ q → get_or found i not_found ≡ last_at ps q
    → ((p : Path) → get_or paths above None ≡ Some p → above < i → get_or found above not_found ≡ counted ps (Some p))
    → let made : Found = record { key = within (get_or found above not_found).value (get_or found i not_found).key; value = within (get_or found above not_found).value (get_or found i not_found).value } in
    made ≡ counted ps q
settled_at paths found ps i above None tree first up at row other = rw (row, nothing_in (get_or found above not_found).value) refl
settled_at paths found ps i above (Some []) tree first up at row other = absurd (not_whole paths i tree first at)
settled_at paths found ps i above (Some (s ∷ p)) tree first up at row other =
    let is = up s p refl in
    rw (row, other p is.0 is.1) refl

kept_at : (paths : List (Option Path)) (found : List Found) (ps : List Part) (i above : ℕ) (q : Option Path) → IsTree paths → 1 ≤ i
    → ((s : Step) (p : Path) → q ≡ Some (s ∷ p) → (get_or paths above None ≡ Some p) × (above < i))
    → get_or paths i None ≡ q → i ≤ above → last_at ps q ≡ counted ps q
kept_at paths found ps i above None tree first up at high = refl
kept_at paths found ps i above (Some []) tree first up at high = refl
kept_at paths found ps i above (Some (s ∷ p)) tree first up at high = let is = up s p refl in absurd (omega (arith, is.1))

pub settle : (paths : List (Option Path)) (found : List Found) (ps : List Part) (i above : ℕ) → IsTree paths → 1 ≤ i → i < length found → above < i
    → ((s : Step) (p : Path) → get_or paths i None ≡ Some (s ∷ p) → (get_or paths above None ≡ Some p) × (above < i))
    → IsCountedBelow paths found ps i → IsCountedBelow paths (settled_in found i above) ps (i + 1)
settle paths found ps i above tree first low under up is =
    let made : Found = record { key = within (get_or found above not_found).value (get_or found i not_found).key; value = within (get_or found above not_found).value (get_or found i not_found).value } in
    let here : made ≡ counted ps (get_or paths i None) = settled_at paths found ps i above (get_or paths i None) tree first up refl (is.from i (omega arith)) (λ p at lt. is.below above lt ∙ ap (counted ps) at) in
    record {
      long = set_long found i made ∙ is.long;
      below = λ n h. elim (same_or_not n i) [
        | inl same ↦ rw same (get_or-set_same found i made not_found low ∙ here)
        | inr other ↦ get_or-set_other found i n made not_found other ∙ is.below n (omega arith)
      ];
      from = λ n h. get_or-set_other found i n made not_found (λ e. omega arith) ∙ is.from n (omega arith);
    }

pub keep : (paths : List (Option Path)) (found : List Found) (ps : List Part) (i above : ℕ) → IsTree paths → 1 ≤ i → i ≤ above
    → ((s : Step) (p : Path) → get_or paths i None ≡ Some (s ∷ p) → (get_or paths above None ≡ Some p) × (above < i))
    → IsCountedBelow paths found ps i → IsCountedBelow paths found ps (i + 1)
keep paths found ps i above tree first high up is = record {
  long = is.long;
  below = λ n h. elim (same_or_not n i) [
    | inl same ↦ rw same (is.from i (omega arith) ∙ kept_at paths found ps i above (get_or paths i None) tree first up refl high)
    | inr other ↦ is.below n (omega arith)
  ];
  from = λ n h. is.from n (omega arith);
}

not_low : (m n : ℕ) → n ≤ m → ltb m n ≡ false
not_low m n h = grind (arith, nat_tests)

pub one_more : (paths : List (Option Path)) (old new : List Found) (ps : List Part) (i above : ℕ) → IsTree paths → 1 ≤ i → i < length old → new ≡ settled old i above
    → ((s : Step) (p : Path) → get_or paths i None ≡ Some (s ∷ p) → (get_or paths above None ≡ Some p) × (above < i))
    → IsCountedBelow paths old ps i → IsCountedBelow paths new ps (i + 1)
one_more paths old new ps i above tree first under made up is = elim (cases_lt above i) [
  | inl lower ↦ rw (made, low above i lower) (settle paths old ps i above tree first under lower up is)
  | inr upper ↦ rw (made, not_low above i upper) (keep paths old ps i above tree first upper up is)
]

pub begin : (paths : List (Option Path)) (found : List Found) (ps : List Part) → IsTree paths → IsTable paths found ps → IsCountedBelow paths found ps 1
begin paths found ps tree table = record {
  long = table.0;
  below = λ n h. let zero_is : n ≡ 0 = omega arith in rw zero_is (table.1 0 ∙ rw (sound paths [] 0 tree.whole) refl);
  from = λ n h. table.1 n;
}

past : (found : List Found) (n : ℕ) → length found ≤ n → get_or found n not_found ≡ not_found
past found n h = grind (arith, common_steps)

past_paths : (paths : List (Option Path)) (n : ℕ) → length paths ≤ n → get_or paths n None ≡ None
past_paths paths n h = grind (arith, common_steps)

pub done : (paths : List (Option Path)) (found : List Found) (ps : List Part) (i : ℕ) → length found ≤ i → IsCountedBelow paths found ps i → IsCounted paths found ps
done paths found ps i all is = (
  is.long,
  λ n. elim (cases_lt n i) [
    | inl lower ↦ is.below n lower
    | inr upper ↦ past found n (omega arith) ∙ rw (past_paths paths n (let l = is.long in omega arith)) refl
  ],
)
