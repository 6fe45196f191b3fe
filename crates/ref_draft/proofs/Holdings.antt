-- What the way in which a keyword holds its subschemas says of the keyword, and how the scan goes on there.
use Rattle.std.proofs.Common.{◌≡◌, ℕ, List, ◌∷◌, Bool, true, false, ◌&&◌, ◌||◌, cond, codes, ⊎_elim, refl, sym, ap, ◌∙◌, true≢false}
use Rattle.std.specs.Str.{bytes_eq}
use Rattle.std.proofs.lemmas.Bool.{and_parts, or_cases, or_left, or_right}
use Rattle.ref_paths.specs.Path.{Part, Key}
use Rattle.ref_draft.specs.declared.draft.Draft.{Draft}
use Rattle.ref_draft.specs.declared.draft.Draft.TheVariants.{Draft4, Draft6, Draft7, Draft201909, Draft202012, Unknown}
use Rattle.ref_draft.specs.declared.spec.Holding.{Holding}
use Rattle.ref_draft.specs.declared.spec.Holding.TheVariants.{Whole, WholeObject, Elements, Members as EachMember, ElementsOrWhole, ObjectMembers, Nothing}
use Rattle.ref_draft.specs.Keywords.{is_one_of, row_4, row, is_before_2020, is_items_or_dependencies, is_map_keyword, boolean_or_schema, holding_of}
use Rattle.ref_draft.specs.Scan.{is_value_keyword, is_child_keyword}
use Rattle.ref_draft.specs.ScanSteps.{scan, scan_past}
use Rattle.ref_draft.proofs.Disjoint.{same, child_is_no_value, items_is_no_value, items_is_no_child}

-- neither a value keyword nor a child keyword, nor before 2020-12 `items` or `dependencies`
pub record HoldsNothing (d : Draft) (k : List ℕ) : Type 0 where
  pub no_value : is_value_keyword d k ≡ false
  pub no_child : is_child_keyword d k ≡ false
  pub no_items : (is_before_2020 d && is_items_or_dependencies k) ≡ false

-- before 2020-12 `items` or `dependencies`
pub record HoldsItems (d : Draft) (k : List ℕ) : Type 0 where
  pub before : is_before_2020 d ≡ true
  pub items : is_items_or_dependencies k ≡ true

-- a keyword whose object has schemas as members, in the table or `dependencies`
pub record HoldsMembers (d : Draft) (k : List ℕ) : Type 0 where
  pub child : is_child_keyword d k ≡ true
  pub in_map : is_map_keyword d k ≡ true

pub record HoldsDependencies (d : Draft) (k : List ℕ) : Type 0 where
  pub items : HoldsItems d k
  pub in_map : is_map_keyword d k ≡ true

abbrev pub Says : Draft → List ℕ → Holding → Type 0
Says d k Whole = is_value_keyword d k ≡ true
Says d k WholeObject = is_value_keyword d k ≡ true
Says d k Elements = is_child_keyword d k ≡ true
Says d k EachMember = HoldsMembers d k
Says d k ElementsOrWhole = HoldsItems d k
Says d k ObjectMembers = HoldsDependencies d k
Says d k Nothing = HoldsNothing d k

-- a keyword that may have a boolean in place of a schema is one whose value is a schema
value_in_4 : (k : List ℕ) → is_one_of k (boolean_or_schema Draft4) ≡ true → is_one_of k row_4.values ≡ true
value_in_4 k e =
    ⊎_elim (λ here. ap (λ w. is_one_of w row_4.values) (same k (codes "additionalItems") here))
    (λ later.
    ⊎_elim (λ here. ap (λ w. is_one_of w row_4.values) (same k (codes "additionalProperties") here)) (λ none. absurd (true≢false (sym none)))
    (or_cases (bytes_eq k (codes "additionalProperties")) false later))
    (or_cases (bytes_eq k (codes "additionalItems")) (bytes_eq k (codes "additionalProperties") || false) e)

value_of_row : (d : Draft) (k : List ℕ) → is_one_of k (boolean_or_schema d) ≡ true → is_value_keyword d k ≡ true
value_of_row Draft4 k e = value_in_4 k e
value_of_row Draft6 k e = absurd (true≢false (sym e))
value_of_row Draft7 k e = absurd (true≢false (sym e))
value_of_row Draft201909 k e = absurd (true≢false (sym e))
value_of_row Draft202012 k e = absurd (true≢false (sym e))
value_of_row Unknown k e = absurd (true≢false (sym e))

neither : (a b : Bool) → a ≡ false → b ≡ false → (a || b) ≡ false
neither true b e f = e
neither false b e f = f

no_items_there : (before items dependencies : Bool) → (before && items) ≡ false → (before && dependencies) ≡ false → (before && (items || (dependencies || false))) ≡ false
no_items_there true true dependencies e f = e
no_items_there true false true e f = f
no_items_there true false false e f = refl
no_items_there false items dependencies e f = refl

says : (d : Draft) (k : List ℕ) (boolean value array map items dependencies : Bool)
    → is_one_of k (boolean_or_schema d) ≡ boolean → is_value_keyword d k ≡ value → is_one_of k (row d).arrays ≡ array → is_one_of k (row d).maps ≡ map
    → (is_before_2020 d && bytes_eq k (codes "items")) ≡ items → (is_before_2020 d && bytes_eq k (codes "dependencies")) ≡ dependencies
    → Says d k (cond boolean WholeObject (cond value Whole (cond array Elements (cond map EachMember (cond items ElementsOrWhole (cond dependencies ObjectMembers Nothing))))))
says d k true value array map items dependencies b v a m i e = value_of_row d k b
says d k false true array map items dependencies b v a m i e = v
says d k false false true map items dependencies b v a m i e = or_left (is_one_of k (row d).arrays) (is_one_of k (row d).maps) a
says d k false false false true items dependencies b v a m i e =
    record { child = or_right (is_one_of k (row d).arrays) (is_one_of k (row d).maps) m; in_map = or_left (is_one_of k (row d).maps) (is_before_2020 d && bytes_eq k (codes "dependencies")) m }
says d k false false false false true dependencies b v a m i e =
    let parts = and_parts (is_before_2020 d) (bytes_eq k (codes "items")) i in
    record { before = parts.0; items = or_left (bytes_eq k (codes "items")) (bytes_eq k (codes "dependencies") || false) parts.1 }
says d k false false false false false true b v a m i e =
    let parts = and_parts (is_before_2020 d) (bytes_eq k (codes "dependencies")) e in
    record {
      items = record { before = parts.0; items = or_right (bytes_eq k (codes "items")) (bytes_eq k (codes "dependencies") || false) (or_left (bytes_eq k (codes "dependencies")) false parts.1) };
      in_map = or_right (is_one_of k (row d).maps) (is_before_2020 d && bytes_eq k (codes "dependencies")) e;
    }
says d k false false false false false false b v a m i e =
    record {
      no_value = v;
      no_child = neither (is_one_of k (row d).arrays) (is_one_of k (row d).maps) a m;
      no_items = no_items_there (is_before_2020 d) (bytes_eq k (codes "items")) (bytes_eq k (codes "dependencies")) i e;
    }

pub says_holding : (d : Draft) (k : List ℕ) → Says d k (holding_of d k)
says_holding d k =
    says d k (is_one_of k (boolean_or_schema d)) (is_value_keyword d k) (is_one_of k (row d).arrays) (is_one_of k (row d).maps) (is_before_2020 d && bytes_eq k (codes "items"))
    (is_before_2020 d && bytes_eq k (codes "dependencies")) refl refl refl refl refl refl

-- ---- the scan at a keyword

-- on after a value keyword, past one part after a child keyword, or else whether the value after `items` is an object
abbrev at_key : Bool → Bool → Bool → Bool → Bool → Bool → Bool
at_key value child items object on past = cond value on (cond child past (items && object))

at_value : (value child items object on past : Bool) → value ≡ true → at_key value child items object on past ≡ on
at_value true child items object on past v = refl
at_value false child items object on past v = absurd (true≢false (sym v))

at_child : (value child items object on past : Bool) → value ≡ false → child ≡ true → at_key value child items object on past ≡ past
at_child true child items object on past v c = absurd (true≢false v)
at_child false true items object on past v c = refl
at_child false false items object on past v c = absurd (true≢false (sym c))

at_other : (value child items object on past : Bool) → value ≡ false → child ≡ false → at_key value child items object on past ≡ (items && object)
at_other true child items object on past v c = absurd (true≢false v)
at_other false true items object on past v c = absurd (true≢false c)
at_other false false items object on past v c = refl

pub scan-value : (d : Draft) (object : Bool) (k : List ℕ) (parts : List Part) → is_value_keyword d k ≡ true → scan d object (Key k ∷ parts) ≡ scan d object parts
scan-value d object k parts value =
    at_value (is_value_keyword d k) (is_child_keyword d k) (is_before_2020 d && is_items_or_dependencies k) object (scan d object parts) (scan_past d object parts) value

pub scan-child : (d : Draft) (object : Bool) (k : List ℕ) (parts : List Part) → is_child_keyword d k ≡ true → scan d object (Key k ∷ parts) ≡ scan_past d object parts
scan-child d object k parts child =
    at_child (is_value_keyword d k) (is_child_keyword d k) (is_before_2020 d && is_items_or_dependencies k) object (scan d object parts) (scan_past d object parts) (child_is_no_value d k child) child

pub scan-items : (d : Draft) (object : Bool) (k : List ℕ) (parts : List Part) → HoldsItems d k → scan d object (Key k ∷ parts) ≡ object
scan-items d object k parts held =
    at_other (is_value_keyword d k) (is_child_keyword d k) (is_before_2020 d && is_items_or_dependencies k) object (scan d object parts) (scan_past d object parts)
    (items_is_no_value d k held.before held.items) (items_is_no_child d k held.before held.items)
    ∙ ap (λ b. (b && is_items_or_dependencies k) && object) held.before ∙ ap (λ b. b && object) held.items

pub scan-nothing : (d : Draft) (object : Bool) (k : List ℕ) (parts : List Part) → HoldsNothing d k → scan d object (Key k ∷ parts) ≡ false
scan-nothing d object k parts held =
    at_other (is_value_keyword d k) (is_child_keyword d k) (is_before_2020 d && is_items_or_dependencies k) object (scan d object parts) (scan_past d object parts) held.no_value held.no_child
    ∙ ap (λ b. b && object) held.no_items

-- by the way in which the keyword holds its subschemas
abbrev pub by_holding : Holding → Bool → Bool → Bool → Bool
by_holding Whole object on past = on
by_holding WholeObject object on past = on
by_holding Elements object on past = past
by_holding EachMember object on past = past
by_holding ElementsOrWhole object on past = object
by_holding ObjectMembers object on past = object
by_holding Nothing object on past = false

goes_on : (d : Draft) (object : Bool) (k : List ℕ) (parts : List Part) (how : Holding) → Says d k how → scan d object (Key k ∷ parts) ≡ by_holding how object (scan d object parts) (scan_past d object parts)
goes_on d object k parts Whole s = scan-value d object k parts s
goes_on d object k parts WholeObject s = scan-value d object k parts s
goes_on d object k parts Elements s = scan-child d object k parts s
goes_on d object k parts EachMember s = scan-child d object k parts s.child
goes_on d object k parts ElementsOrWhole s = scan-items d object k parts s
goes_on d object k parts ObjectMembers s = scan-items d object k parts s.items
goes_on d object k parts Nothing s = scan-nothing d object k parts s

pub scan_key : (d : Draft) (object : Bool) (k : List ℕ) (parts : List Part) → scan d object (Key k ∷ parts) ≡ by_holding (holding_of d k) object (scan d object parts) (scan_past d object parts)
scan_key d object k parts = goes_on d object k parts (holding_of d k) (says_holding d k)
