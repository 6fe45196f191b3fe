-- Worked rows of paths: what the definitions return at literals.
use Rattle.std.specs.Prelude.{◌≡◌, ℕ, true, false, List, [], ◌∷◌, ◌++◌, codes, Some, None, String}
use Rattle.std.specs.Borrow.{Bor}
use Rattle.std.specs.declared.alloc.Global.{Global}
use Rattle.std.specs.declared.borrow.CowStr.TheVariants as cow
use Rattle.std.specs.declared.rc.Rc.{Rc}
use Rattle.serde_json.specs.Data.{Data, number, unsigned, string, array, object, no_items, item, no_members, member}
use Rattle.ref_paths.specs.Path.{Key, Index, child_at, value_at, HasFittingIndexes, last_part, parent_path, part_eq, path_eq}
use Rattle.ref_paths.specs.inner.Link.{path_of}
use Rattle.ref_paths.specs.Segment.{part_of, OwnsNothing}
use Rattle.ref_paths.specs.declared.path.Link.{Link}
use Rattle.ref_paths.specs.declared.path.JsonPointerSegment.TheVariants as segment

-- the value of the key `foo` in RFC 6901's document, of its section 5
abbrev pub foo : Data
foo = array (item (string (codes "bar")) (item (string (codes "baz")) no_items))

-- that document, its keys in order
abbrev pub example : Data
example =
    object (member [] (number (unsigned 0))
    (member (codes " ") (number (unsigned 7))
    (member (codes "a/b") (number (unsigned 1))
    (member (codes "c%d") (number (unsigned 2))
    (member (codes "e^f") (number (unsigned 3))
    (member (codes "foo") foo
    (member (codes "g|h") (number (unsigned 4))
    (member (105 ∷ 92 ∷ 106 ∷ []) (number (unsigned 5))
    (member (107 ∷ 34 ∷ 108 ∷ []) (number (unsigned 6))
    (member (codes "m~n") (number (unsigned 8)) no_members))))))))))

pub record PathRows : Type 0 where
  pub child_by_key : child_at example (Key (codes "foo")) ≡ Some foo
  pub child_by_index : child_at foo (Index 1) ≡ Some (string (codes "baz"))
  pub no_child_by_digits : child_at foo (Key (codes "1")) ≡ None
  pub no_child_by_index : child_at example (Index 0) ≡ None
  pub at_root : value_at example [] ≡ Some example
  pub at_item : value_at example (Key (codes "foo") ∷ Index 0 ∷ []) ≡ Some (string (codes "bar"))
  pub past_the_end : value_at example (Key (codes "foo") ∷ Index 2 ∷ []) ≡ None
  pub greatest_fits : HasFittingIndexes (Key [] ∷ Index 18446744073709551615 ∷ [])
  pub next_does_not : HasFittingIndexes (Key [] ∷ Index 18446744073709551616 ∷ []) → ⊥
  pub last_of_root : last_part [] ≡ Index 0
  pub last_of_two : last_part (Index 2 ∷ Key (codes "a") ∷ []) ≡ Key (codes "a")
  pub parent_of_root : parent_path [] ≡ None
  pub parent_of_one : parent_path (Key (codes "a") ∷ []) ≡ Some []
  pub parent_of_two : parent_path (Key (codes "a") ∷ Index 2 ∷ []) ≡ Some (Key (codes "a") ∷ [])
  pub equal_keys : part_eq (Key (codes "a")) (Key (codes "a")) ≡ true
  pub other_keys : part_eq (Key (codes "a")) (Key (codes "ab")) ≡ false
  pub equal_indexes : part_eq (Index 1) (Index 1) ≡ true
  pub other_indexes : part_eq (Index 1) (Index 2) ≡ false
  pub key_of_digits : part_eq (Key (codes "0")) (Index 0) ≡ false
  pub index_and_key : part_eq (Index 0) (Key (codes "0")) ≡ false
  pub equal_paths : path_eq (Key (codes "a") ∷ Index 1 ∷ []) (Key (codes "a") ∷ Index 1 ∷ []) ≡ true
  pub shorter_path : path_eq (Key (codes "a") ∷ Index 1 ∷ []) (Key (codes "a") ∷ []) ≡ false
  pub other_path : path_eq (Index 1 ∷ Index 2 ∷ []) (Index 2 ∷ Index 1 ∷ []) ≡ false
  pub first_segment : part_of (segment.Index 0) ≡ Index 0
  pub index_segment : part_of (segment.Index 3) ≡ Index 3
  pub index_owns_nothing : OwnsNothing (segment.Index 3)
  pub borrowed_key_owns_nothing : (key : Bor (List ℕ))
      → OwnsNothing (segment.Key (cow.Borrowed key))
  pub owned_key_owns_its_text : (key : String Global) → OwnsNothing (segment.Key (cow.Owned key))
      → ⊥

-- what a chain of links is seen as, from its last link on
pub record LinkRows : Type 0 where
  pub no_link : path_of {A = ℕ} None ≡ []
  pub last_link : (link : Rc Link ℕ)
      → path_of (Some link) ≡ link.value.parent ++ part_of link.value.segment ∷ []
