-- The children of a value nest less deeply than it.
use Rattle.std.proofs.Common.{ℕ, suc, ◌<◌, ◌≤◌, List, [], ◌∷◌, arith}
use Rattle.std.specs.List.{AllByRecursion}
use Rattle.serde_json.specs.Data.{Data, null, boolean, number, string, array, object, Items, Members, depth, items_depth, members_depth}
use Rattle.ref_draft.specs.declared.draft.Draft.{Draft}
use Rattle.ref_draft.specs.Children.{Child, children_below, children}
use Rattle.ref_draft.proofs.Hereditary.{Hereditary, in_below}

-- a value nests at most n deep
abbrev Within : ℕ → Data → Type 0
Within n v = depth v ≤ n

abbrev ItemsWithin : ℕ → Items → Type 0
ItemsWithin n ds = items_depth ds ≤ n

abbrev MembersWithin : ℕ → Members → Type 0
MembersWithin n ms = members_depth ms ≤ n

within : (n : ℕ) → Hereditary (Within n) (ItemsWithin n) (MembersWithin n)
within n = record {
  element = λ d ds h. omega (arith, h);
  elements = λ d ds h. omega (arith, h);
  value = λ k d ms h. omega (arith, h);
  members = λ k d ms h. omega (arith, h);
  in_array = λ ds h. omega (arith, h);
  in_object = λ ms h. omega (arith, h);
}

strictly : (n : ℕ) (cs : List Child) → AllByRecursion (λ child. Within n child.1) cs → AllByRecursion (λ child. depth child.1 < suc n) cs
strictly n [] p = tt
strictly n (c ∷ cs) p = (omega (arith, p.0), strictly n cs p.1)

pub shallower : (d : Draft) (t : Data) → AllByRecursion (λ child. depth child.1 < depth t) (children d t)
shallower d null = tt
shallower d (boolean b) = tt
shallower d (number x) = tt
shallower d (string s) = tt
shallower d (array ds) = tt
shallower d (object ms) =
    strictly (members_depth ms) (children_below d ms) (in_below (Within (members_depth ms)) (ItemsWithin (members_depth ms)) (MembersWithin (members_depth ms)) (within (members_depth ms)) d ms (omega arith))
