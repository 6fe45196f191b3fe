-- What a shared list is seen as, by what it has.
use Rattle.std.specs.Prelude.{◌≡◌, ℕ, List, [], ◌∷◌, Some, None}
use Rattle.std.specs.Borrow.{Bor}
use Rattle.std.specs.declared.alloc.Global.{Global}
use Rattle.std.specs.declared.rc.Rc.{Rc}
use Rattle.ref_parts.specs.inner.Items.{items_of, held, left}
use Rattle.ref_parts.specs.declared.list.Node.{Node}

pub record ListRows : Type 0 where
  pub nothing_held : held {T = ℕ} None ≡ []
  pub one_held : (item : Rc ℕ Global) → held (Some item) ≡ item.value ∷ []
  pub no_items : items_of {T = ℕ} None ≡ []
  pub three_items : (node : Rc (Node ℕ) Global)
      → items_of (Some node)
      ≡ node.value.first.value
      ∷ node.value.second.value ∷ node.value.third.value ∷ node.value.rest
  pub nothing_left : left {T = ℕ} None ≡ []
  pub one_left : (item : Bor ℕ) → left (Some item) ≡ item.now ∷ []
