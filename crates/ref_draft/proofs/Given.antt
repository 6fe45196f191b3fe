-- What `subresources_of` gives of an object, keyword by keyword.
use Rattle.std.proofs.Common.{◌≡◌, ℕ, List, [], ◌∷◌, ◌++◌, map, Bool, true, false, cond, refl, ap}
use Rattle.std.specs.List.{filter, AllByRecursion}
use Rattle.serde_json.specs.Data.{Data, object, Members, member}
use Rattle.ref_draft.specs.declared.draft.Draft.{Draft}
use Rattle.ref_draft.specs.declared.spec.Holding.{Holding}
use Rattle.ref_draft.specs.Keywords.{holding_of, is_left_out}
use Rattle.ref_draft.specs.Children.{Child, held_children, children_below, keyword_of, is_given, subresources}
use Rattle.ref_draft.proofs.Held.{value_of}
use Rattle.ref_draft.proofs.Lists.{all_map}
use Rattle.ref_draft.proofs.Under.{BeginsWith, under_held}

-- each child is under the keyword
abbrev Under : List ℕ → List Child → Type 0
Under k cs = AllByRecursion (λ child. keyword_of child.0 ≡ k) cs

keywords_held : (how : Holding) (k : List ℕ) (v : Data) → Under k (held_children how k v)
keywords_held how k v = all_map (BeginsWith k) (λ child. keyword_of child.0 ≡ k) (held_children how k v) (λ child begins. ap keyword_of begins) (under_held how k v)

filtered_given : (d : Draft) (k : List ℕ) (b : Bool) → is_left_out d k ≡ b → (cs : List Child) → Under k cs → filter (is_given d) cs ≡ cond b [] cs
filtered_given d k true e [] p = refl
filtered_given d k false e [] p = refl
filtered_given d k true e (c ∷ cs) p = rw (p.0, e) (filtered_given d k true e cs p.1)
filtered_given d k false e (c ∷ cs) p = rw (p.0, e) (ap (λ xs. c ∷ xs) (filtered_given d k false e cs p.1))

-- under a keyword that is left out nothing is given, and under another all
pub given_none : (d : Draft) (how : Holding) (k : List ℕ) (v : Data) → is_left_out d k ≡ true → map value_of (filter (is_given d) (held_children how k v)) ≡ []
given_none d how k v e = ap (map value_of) (filtered_given d k true e (held_children how k v) (keywords_held how k v))

pub given_all : (d : Draft) (how : Holding) (k : List ℕ) (v : Data) → is_left_out d k ≡ false → map value_of (filter (is_given d) (held_children how k v)) ≡ map value_of (held_children how k v)
given_all d how k v e = ap (map value_of) (filtered_given d k false e (held_children how k v) (keywords_held how k v))

split : (d : Draft) (b : Bool) (c : Child) (all xs ys : List Child) → map value_of all ≡ map value_of xs ++ map value_of ys → map value_of (cond b (c ∷ all) all) ≡ map value_of (cond b (c ∷ xs) xs) ++ map value_of ys
split d true c all xs ys e = ap (λ vs. c.1 ∷ vs) e
split d false c all xs ys e = e

given_append : (d : Draft) (xs ys : List Child) → map value_of (filter (is_given d) (xs ++ ys)) ≡ map value_of (filter (is_given d) xs) ++ map value_of (filter (is_given d) ys)
given_append d [] ys = refl
given_append d (x ∷ xs) ys = split d (is_given d x) x (filter (is_given d) (xs ++ ys)) (filter (is_given d) xs) (filter (is_given d) ys) (given_append d xs ys)

-- keyword by keyword
pub subresources-member : (d : Draft) (k : List ℕ) (v : Data) (ms : Members) → subresources d (object (member k v ms)) ≡ map value_of (filter (is_given d) (held_children (holding_of d k) k v)) ++ subresources d (object ms)
subresources-member d k v ms = given_append d (held_children (holding_of d k) k v) (children_below d ms)
