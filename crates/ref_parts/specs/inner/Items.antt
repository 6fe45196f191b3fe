-- The items of a shared list.
use Rattle.std.specs.Prelude.{List, [], ◌∷◌, Option, Some, None}
use Rattle.std.specs.Borrow.{Bor}
use Rattle.std.specs.declared.alloc.Global as global
use Rattle.std.specs.declared.rc.Rc as rc
use Rattle.ref_parts.specs.declared.list.Node.{Node}

-- the item that a handle has, or none
abbrev pub held : {T : Type 0} → Option (rc.Rc T global.Global) → List T
held None = []
held (Some item) = item.value ∷ []

-- the items from a link on, or none
abbrev pub items_of : {T : Type 0} → Option (rc.Rc (Node T) global.Global) → List T
items_of None = []
items_of (Some node) = node.value.first.value ∷ node.value.second.value ∷ node.value.third.value ∷ node.value.rest

-- the item that is lent, or none
abbrev pub left : {T : Type 0} → Option (Bor T) → List T
left None = []
left (Some item) = item.now ∷ []
