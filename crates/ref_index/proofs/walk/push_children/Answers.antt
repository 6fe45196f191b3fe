use Rattle.std.proofs.Common.{◌≡◌, ◌∙◌, Vec, Bool, true, [], eqb, sym, refl, ap, map, length, vec_len, arith}
use Rattle.std.specs.declared.alloc.Global.{Global}
use Rattle.std.proofs.lemmas.Bool.{eqb-true}
use Rattle.serde_json.specs.View.{view}
use Rattle.ref_draft.specs.declared.spec.walk.Child.{Child}
use Rattle.ref_draft.specs.Views.{walked_child}
use Rattle.ref_index.specs.Visit.{path_of, value_of}
use Rattle.ref_index.proofs.Listing.{on_ok}
use Rattle.ref_index.proofs.Walking.{came, none_came, nothing}
use Rattle.ref_index.proofs.walk.push_children.Goals as goal

-- a place without children
no_children : (children : Vec Child Global) (is_empty : Bool) → is_empty ≡ eqb (vec_len children) 0 → is_empty ≡ true → map walked_child children.items ≡ []
no_children children is_empty is empty =
    let zero = eqb-true (vec_len children) 0 (sym is ∙ empty) in
    let len : length children.items ≡ 0 = omega (arith, zero) in
    ap (map walked_child) (nothing children.items len)

pub returns-then-is_empty : goal.returns-then-is_empty
returns-then-is_empty c = λ v there.
    let children = map walked_child c.in_ok-children-in-Borrowed.children.items in
    let none = none_came (path_of c.index-place.result.now.value) c.args.base.now.value c.args.queue.now.items children (no_children c.in_ok-children-in-Borrowed.children c.is_empty.result c.is_empty.ensures c.if-is_empty.true) in
    came c.args.queue.now.items c.args.queue.now.items c.args.at c.index-place.result.now v (path_of c.index-place.result.now.value) (view c.in-Borrowed.value.now) c.args.base.now.value children c.index-place.ensures there refl (ap value_of c.in-Borrowed.is) c.in_ok-children-in-Borrowed.ensures.children c.in_ok-children-in-Borrowed.ensures.found none

pub returns-in_ok-path-in-Borrowed : goal.returns-in_ok-path-in-Borrowed
returns-in_ok-path-in-Borrowed c = λ v there.
    let path : c.in_ok-path-in-Borrowed.path ≡ path_of c.index-place.result.now.value = c.in_ok-path-in-Borrowed.ensures.value ∙ sym (ap path_of c.in-Borrowed.is) in
    on_ok c.push_borrowed.result
    (came c.args.queue.now.items c.push_borrowed.new.queue.items c.args.at c.index-place.result.now v c.in_ok-path-in-Borrowed.path (view c.in-Borrowed.value.now) c.args.base.now.value (map walked_child c.in_ok-children-in-Borrowed.children.items) c.index-place.ensures there (sym path)
    (ap value_of c.in-Borrowed.is) c.in_ok-children-in-Borrowed.ensures.children c.in_ok-children-in-Borrowed.ensures.found) c.push_borrowed.ensures

pub returns-then-is_empty-2 : goal.returns-then-is_empty-2
returns-then-is_empty-2 c = λ v there.
    let children = map walked_child c.in_ok-children-in-Owned.children.items in
    let none = none_came (path_of c.index-place.result.now.value) c.args.base.now.value c.args.queue.now.items children (no_children c.in_ok-children-in-Owned.children c.is_empty-in-Owned.result c.is_empty-in-Owned.ensures c.if-is_empty-2.true) in
    came c.args.queue.now.items c.args.queue.now.items c.args.at c.index-place.result.now v (path_of c.index-place.result.now.value) (view c.in-Owned.value.now) c.args.base.now.value children c.index-place.ensures there refl (ap value_of c.in-Owned.is) c.in_ok-children-in-Owned.ensures.children c.in_ok-children-in-Owned.ensures.found none

pub returns-in_ok-path-in-Owned : goal.returns-in_ok-path-in-Owned
returns-in_ok-path-in-Owned c = λ v there.
    let path : c.in_ok-path-in-Owned.path ≡ path_of c.index-place.result.now.value = c.in_ok-path-in-Owned.ensures.value ∙ sym (ap path_of c.in-Owned.is) in
    on_ok c.push_owned.result
    (came c.args.queue.now.items c.push_owned.new.queue.items c.args.at c.index-place.result.now v c.in_ok-path-in-Owned.path (view c.in-Owned.value.now) c.args.base.now.value (map walked_child c.in_ok-children-in-Owned.children.items) c.index-place.ensures there (sym path)
    (ap value_of c.in-Owned.is) c.in_ok-children-in-Owned.ensures.children c.in_ok-children-in-Owned.ensures.found) c.push_owned.ensures
