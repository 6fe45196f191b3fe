-- Where parts are accepted at an object, the parts to its children that are objects are accepted there.
use Rattle.std.proofs.Common.{◌≡◌, ℕ, suc, List, [], ◌∷◌, ◌++◌, true, inl, inr, ◌⊎◌, refl, sym, ap, ◌∙◌, append_assoc}
use Rattle.std.specs.List.{AllByRecursion}
use Rattle.serde_json.specs.Data.{Data, null, boolean, number, string, array, object, Items, no_items, item, Members, no_members, member}
use Rattle.ref_paths.specs.Path.{Part, Key, Index}
use Rattle.ref_draft.specs.declared.draft.Draft.{Draft}
use Rattle.ref_draft.specs.declared.spec.Holding.{Holding}
use Rattle.ref_draft.specs.declared.spec.Holding.TheVariants.{Whole, WholeObject, Elements, Members as EachMember, ElementsOrWhole, ObjectMembers, Nothing}
use Rattle.ref_draft.specs.Keywords.{is_before_2020, is_items_or_dependencies, holding_of}
use Rattle.ref_draft.specs.Children.{Child, whole_child, elements_from, each_member, elements, members, held_children, children_below, children, has_object, is_object}
use Rattle.ref_draft.specs.Scan.{is_value_keyword, is_child_keyword, Piece, AValue, AChild, parts_of, spelled_path, IsPieceOf, SpellsWord, IsAccepted, AcceptsChildren}
use Rattle.ref_draft.proofs.Holdings.{Says, says_holding}
use Rattle.ref_draft.proofs.Lists.{all_append, all_filter}

-- the path of a child goes on a word, or passes `items` or `dependencies`
record Passes (d : Draft) (path : List Part) : Type 0 where
  before : is_before_2020 d ≡ true
  keyword : List ℕ
  rest : List Part
  items : is_items_or_dependencies keyword ≡ true
  is : path ≡ Key keyword ∷ rest

abbrev Extends : Draft → List Part → Type 0
Extends d path = SpellsWord d path ⊎ Passes d path

abbrev AllExtend : Draft → List Child → Type 0
AllExtend d cs = AllByRecursion (λ child. Extends d child.0) cs

by_value : (d : Draft) (k : List ℕ) → is_value_keyword d k ≡ true → Extends d (Key k ∷ [])
by_value d k e = inl (record { pieces = AValue k ∷ []; word = (e, tt); spells = refl })

by_child : (d : Draft) (k : List ℕ) (part : Part) → is_child_keyword d k ≡ true → Extends d (Key k ∷ part ∷ [])
by_child d k part e = inl (record { pieces = AChild k part ∷ []; word = (e, tt); spells = refl })

by_items : (d : Draft) (k : List ℕ) (rest : List Part) → is_before_2020 d ≡ true → is_items_or_dependencies k ≡ true → Extends d (Key k ∷ rest)
by_items d k rest before items = inr (record { before = before; keyword = k; rest = rest; items = items; is = refl })

each_element : (d : Draft) (k : List ℕ) (i : ℕ) (ds : Items) → ((part : Part) → Extends d (Key k ∷ part ∷ [])) → AllExtend d (elements_from k i ds)
each_element d k i no_items at = tt
each_element d k i (item e ds) at = (at (Index i), each_element d k (suc i) ds at)

each_of : (d : Draft) (k : List ℕ) (ms : Members) → ((part : Part) → Extends d (Key k ∷ part ∷ [])) → AllExtend d (each_member k ms)
each_of d k no_members at = tt
each_of d k (member l e ms) at = (at (Key l), each_of d k ms at)

of_array : (d : Draft) (k : List ℕ) (v : Data) → ((part : Part) → Extends d (Key k ∷ part ∷ [])) → AllExtend d (elements k v)
of_array d k null at = tt
of_array d k (boolean b) at = tt
of_array d k (number x) at = tt
of_array d k (string s) at = tt
of_array d k (array ds) at = each_element d k 0 ds at
of_array d k (object ms) at = tt

of_array_or_whole : (d : Draft) (k : List ℕ) (v : Data) → ((rest : List Part) → Extends d (Key k ∷ rest)) → AllExtend d (held_children ElementsOrWhole k v)
of_array_or_whole d k null at = (at [], tt)
of_array_or_whole d k (boolean b) at = (at [], tt)
of_array_or_whole d k (number x) at = (at [], tt)
of_array_or_whole d k (string s) at = (at [], tt)
of_array_or_whole d k (array ds) at = each_element d k 0 ds (λ part. at (part ∷ []))
of_array_or_whole d k (object ms) at = (at [], tt)

of_object : (d : Draft) (k : List ℕ) (v : Data) → ((part : Part) → Extends d (Key k ∷ part ∷ [])) → AllExtend d (members k v)
of_object d k null at = tt
of_object d k (boolean b) at = tt
of_object d k (number x) at = tt
of_object d k (string s) at = tt
of_object d k (array ds) at = tt
of_object d k (object ms) at = each_of d k ms at

of_held : (d : Draft) (how : Holding) (k : List ℕ) (v : Data) → Says d k how → AllExtend d (held_children how k v)
of_held d Whole k v s = (by_value d k s, tt)
of_held d WholeObject k v s = all_filter (λ child. Extends d child.0) has_object (whole_child k v) (by_value d k s, tt)
of_held d Elements k v s = of_array d k v (λ part. by_child d k part s)
of_held d EachMember k v s = of_object d k v (λ part. by_child d k part s.child)
of_held d ElementsOrWhole k v s = of_array_or_whole d k v (λ rest. by_items d k rest s.before s.items)
of_held d ObjectMembers k v s = all_filter (λ child. Extends d child.0) has_object (members k v) (of_object d k v (λ part. by_items d k (part ∷ []) s.items.before s.items.items))
of_held d Nothing k v s = tt

of_below : (d : Draft) (ms : Members) → AllExtend d (children_below d ms)
of_below d no_members = tt
of_below d (member k v ms) = all_append (λ child. Extends d child.0) (held_children (holding_of d k) k v) (children_below d ms) (of_held d (holding_of d k) k v (says_holding d k)) (of_below d ms)

-- ---- words one after another

spelled_append : (xs ys : List Piece) → spelled_path (xs ++ ys) ≡ spelled_path xs ++ spelled_path ys
spelled_append [] ys = refl
spelled_append (x ∷ xs) ys = ap (λ ps. parts_of x ++ ps) (spelled_append xs ys) ∙ sym (append_assoc (parts_of x) (spelled_path xs) (spelled_path ys))

further : (d : Draft) (parts path : List Part) (t v : Data) → IsAccepted d parts t → Extends d path → is_object v ≡ true → IsAccepted d (parts ++ path) v
further d parts path t v (inl w) (inl x) there =
    inl (record {
      pieces = w.pieces ++ x.pieces;
      word = all_append (IsPieceOf d) w.pieces x.pieces w.word x.word;
      spells = ap (λ ps. ps ++ path) w.spells ∙ ap (λ ps. spelled_path w.pieces ++ ps) x.spells ∙ sym (spelled_append w.pieces x.pieces);
    })
further d parts path t v (inl w) (inr x) there =
    inr (record {
      before = x.before;
      object = there;
      pieces = w.pieces;
      keyword = x.keyword;
      rest = x.rest;
      word = w.word;
      items = x.items;
      spells = ap (λ ps. ps ++ path) w.spells ∙ ap (λ ps. spelled_path w.pieces ++ ps) x.is;
    })
further d parts path t v (inr w) x there =
    inr (record {
      before = w.before;
      object = there;
      pieces = w.pieces;
      keyword = w.keyword;
      rest = w.rest ++ path;
      word = w.word;
      items = w.items;
      spells = ap (λ ps. ps ++ path) w.spells ∙ append_assoc (spelled_path w.pieces) (Key w.keyword ∷ w.rest) path;
    })

each : (d : Draft) (parts : List Part) (t : Data) (cs : List Child) → IsAccepted d parts t → AllExtend d cs → AcceptsChildren d parts cs
each d parts t [] a p = tt
each d parts t (c ∷ cs) a p = (λ there. further d parts c.0 t c.1 a p.0 there, each d parts t cs a p.1)

pub accepts_children : (d : Draft) (parts : List Part) (t : Data) → IsAccepted d parts t → AcceptsChildren d parts (children d t)
accepts_children d parts null a = tt
accepts_children d parts (boolean b) a = tt
accepts_children d parts (number x) a = tt
accepts_children d parts (string s) a = tt
accepts_children d parts (array ds) a = tt
accepts_children d parts (object ms) a = each d parts (object ms) (children_below d ms) a (of_below d ms)
