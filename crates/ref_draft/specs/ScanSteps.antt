-- The scan of parts from their left, which accepts exactly what `Scan.IsAccepted` does (the law `scan_is_accepted`): a
-- function, so that the base along parts computes.
use Rattle.std.specs.Prelude.{List, [], ◌∷◌, Bool, true, false, ◌&&◌, if◌then◌else◌}
use Rattle.ref_paths.specs.Path.{Part, Key, Index}
use Rattle.ref_draft.specs.declared.draft.Draft.{Draft}
use Rattle.ref_draft.specs.Keywords.{is_before_2020, is_items_or_dependencies}
use Rattle.ref_draft.specs.Scan.{is_value_keyword, is_child_keyword}

-- Whether the scan accepts the parts, where `object` says that the value is one. An index and a value keyword are passed, and
-- a child keyword with the part after it; before 2020-12 it ends at `items` or `dependencies`, where an object is accepted.
abbrev mutual
  pub scan : Draft → Bool → List Part → Bool
  scan d object [] = true
  scan d object (Index i ∷ parts) = scan d object parts
  scan d object (Key keyword ∷ parts) =
      if is_value_keyword d keyword then scan d object parts
      else (if is_child_keyword d keyword then scan_past d object parts
      else is_before_2020 d && is_items_or_dependencies keyword && object)

  pub scan_past : Draft → Bool → List Part → Bool
  scan_past d object [] = false
  scan_past d object (part ∷ parts) = scan d object parts
