-- What a tree is after some of its texts and keys have changed, and no others.
use Rattle.std.specs.Prelude.{◌≡◌, ℕ, suc, Bool, true, false, List, [], ◌∷◌, ◌++◌, decimal, bytes_eq, Option, Some, None, option_map, unwrap_or, string_bytes, if◌then◌else◌, ◌&&◌, ◌==◌, ⊤}
use Rattle.std.specs.List.{list_any}
use Rattle.std.specs.Option.{option_or}
use Rattle.std.specs.BTreeMap.{get_by_text}
use Rattle.serde_json.specs.Data.{Data, null, boolean, number, string, array, object, Items, no_items, item, Members, no_members, member}
use Rattle.serde_json.specs.Find.{get_member}
use Rattle.ref_parts.specs.Pointer.{slash, escape}
use Rattle.ref_edits.specs.declared.plan.Change.{Change}
use Rattle.ref_edits.specs.declared.plan.Part.{Part}
use Rattle.ref_edits.specs.declared.plan.Part.TheVariants.{Key, Text}
use Rattle.ref_edits.specs.declared.trees.Wanted as program

-- what is to change: by its pointer, the text that a value becomes, and the key that a member gets
pub record Wanted : Type 0 where
  pub text : List ℕ → Option (List ℕ)
  pub key : List ℕ → Option (List ℕ)

-- the pointers of a member and of an item (RFC 6901, 3)
abbrev pub below_key : List ℕ → List ℕ → List ℕ
below_key p key = p ++ slash ∷ escape key

abbrev pub below_index : List ℕ → ℕ → List ℕ
below_index p n = p ++ slash ∷ decimal n

-- the text after of one at a pointer
abbrev pub text_after : Wanted → List ℕ → List ℕ → List ℕ
text_after w p s = unwrap_or (w.text p) s

-- how many members there are
abbrev pub count : Members → ℕ
count no_members = 0
count (member k d ms) = suc (count ms)

-- a new key is none of the object's before, and none that another member got
abbrev pub IsFree : Members → List (List ℕ) → List ℕ → Type 0
IsFree before keys key = (get_member key before ≡ None) × (list_any (λ k. bytes_eq k key) keys ≡ false)

-- a value is under a key, or under the new one that its member gets
abbrev pub IsAt : Members → Members → List (List ℕ) → List ℕ → Option (List ℕ) → Data → Type 0
IsAt before now keys k None e = get_member k now ≡ Some e
IsAt before now keys k (Some key) e = IsFree before keys key × (get_member key now ≡ Some e)

-- the new keys, with one more
abbrev pub keys_with : List (List ℕ) → Option (List ℕ) → List (List ℕ)
keys_with keys None = keys
keys_with keys (Some key) = keys ++ key ∷ []

-- a value that is neither an object nor an array nor a text
abbrev pub IsLeaf : Data → Type 0
IsLeaf null = ⊤
IsLeaf (boolean b) = ⊤
IsLeaf (number n) = ⊤
IsLeaf (string s) = ⊥
IsLeaf (array ds) = ⊥
IsLeaf (object ms) = ⊥

abbrev mutual
  -- the tree before at a pointer, and the one in its place after
  pub IsAfter : Wanted → List ℕ → Data → Data → Type 0
  IsAfter w p null e = e ≡ null
  IsAfter w p (boolean b) e = e ≡ boolean b
  IsAfter w p (number n) e = e ≡ number n
  IsAfter w p (string s) e = e ≡ string (text_after w p s)
  IsAfter w p (array ds) e = (es : Items) × (e ≡ array es) × AreItemsAfter w p 0 ds es
  IsAfter w p (object ms) e = (ns : Members) × (e ≡ object ns) × (count ns ≡ count ms) × AreBelow w p ms ns [] ms

  -- its items from one on, which are as many
  pub AreItemsAfter : Wanted → List ℕ → ℕ → Items → Items → Type 0
  AreItemsAfter w p n no_items es = es ≡ no_items
  AreItemsAfter w p n (item d ds) es =
      (e : Data) × (more : Items) × (es ≡ item e more) × IsAfter w (below_index p n) d e × AreItemsAfter w p (suc n) ds more

  -- members of an object, each of which is under its key after; these are the new keys that those before it got
  pub AreBelow : Wanted → List ℕ → Members → Members → List (List ℕ) → Members → Type 0
  AreBelow w p before now keys no_members = ⊤
  AreBelow w p before now keys (member k d ms) =
      (e : Data) × IsAt before now keys k (w.key (below_key p k)) e × IsAfter w (below_key p k) d e
      × AreBelow w p before now (keys_with keys (w.key (below_key p k))) ms

-- the members of an object
abbrev pub AreMembersAfter : Wanted → List ℕ → Members → Members → Type 0
AreMembersAfter w p ms ns = (count ns ≡ count ms) × AreBelow w p ms ns [] ms

-- ---- what changes say

abbrev pub is_part : Part → Part → Bool
is_part Key Key = true
is_part Text Text = true
is_part Key Text = false
is_part Text Key = false

-- what a change makes of a part of its document at a pointer
abbrev pub new_by : Part → List ℕ → Change → Option (List ℕ)
new_by part p c = if is_part part c.part && bytes_eq p (string_bytes c.pointer) then Some (string_bytes c.new) else None

-- what changes make of it, of which the last one counts
abbrev pub new_in : ℕ → Part → List ℕ → List Change → Option (List ℕ)
new_in document part p [] = None
new_in document part p (c ∷ cs) = option_or (new_in document part p cs) (if c.document == document then new_by part p c else None)

-- what changes say of the document with a number
abbrev pub wanted_by : ℕ → List Change → Wanted
wanted_by document changes =
    record {
      text = λ p. new_in document Text p changes;
      key = λ p. new_in document Key p changes;
    }

-- what the program has of it
abbrev pub wanted_of : program.Wanted → Wanted
wanted_of w =
    record {
      text = λ p. option_map string_bytes (get_by_text w.texts p);
      key = λ p. option_map string_bytes (get_by_text w.keys p);
    }
