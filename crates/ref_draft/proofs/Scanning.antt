-- The scan accepts exactly the parts that the definition does.
use Rattle.std.proofs.Common.{◌≡◌, ℕ, List, [], ◌∷◌, ◌++◌, Bool, true, false, ◌&&◌, cond, inl, inr, ◌↔◌, refl, sym, ap, ◌∙◌, true≢false, append_assoc}
use Rattle.std.proofs.lemmas.Bool.{and_parts}
use Rattle.std.proofs.lemmas.List.{append-nil}
use Rattle.serde_json.specs.Data.{Data}
use Rattle.ref_paths.specs.Path.{Part, Key, Index}
use Rattle.ref_draft.specs.declared.draft.Draft.{Draft}
use Rattle.ref_draft.specs.Keywords.{is_before_2020, is_items_or_dependencies}
use Rattle.ref_draft.specs.Children.{is_object}
use Rattle.ref_draft.specs.Scan.{is_value_keyword, is_child_keyword, Piece, AnIndex, AValue, AChild, parts_of, spelled_path, IsPieceOf, IsWord, SpellsWord, IsAccepted}
use Rattle.ref_draft.specs.ScanSteps.{scan, scan_past}
use Rattle.ref_draft.proofs.Holdings.{scan-value, scan-child, scan-items}

-- ---- what the scan accepts is accepted

-- a piece in front
add : (d : Draft) (v : Data) (parts : List Part) (piece : Piece) → IsPieceOf d piece → IsAccepted d parts v → IsAccepted d (parts_of piece ++ parts) v
add d v parts piece ok (inl w) = inl (record { pieces = piece ∷ w.pieces; word = (ok, w.word); spells = ap (λ ps. parts_of piece ++ ps) w.spells })
add d v parts piece ok (inr w) =
    inr (record {
      before = w.before;
      object = w.object;
      pieces = piece ∷ w.pieces;
      keyword = w.keyword;
      rest = w.rest;
      word = (ok, w.word);
      items = w.items;
      spells = ap (λ ps. parts_of piece ++ ps) w.spells ∙ sym (append_assoc (parts_of piece) (spelled_path w.pieces) (Key w.keyword ∷ w.rest));
    })

-- the parts after a child keyword
past : (d : Draft) (v : Data) (k : List ℕ) (parts : List Part) → is_child_keyword d k ≡ true → ((part : Part) (rest : List Part) → parts ≡ part ∷ rest → scan d (is_object v) rest ≡ true → IsAccepted d rest v)
    → scan_past d (is_object v) parts ≡ true → IsAccepted d (Key k ∷ parts) v
past d v k [] child rests h = absurd (true≢false (sym h))
past d v k (part ∷ parts) child rests h = add d v parts (AChild k part) child (rests part parts refl h)

at_key : (d : Draft) (v : Data) (k : List ℕ) (parts : List Part) (value child : Bool)
    → is_value_keyword d k ≡ value → is_child_keyword d k ≡ child
    → (scan d (is_object v) parts ≡ true → IsAccepted d parts v) → ((part : Part) (rest : List Part) → parts ≡ part ∷ rest → scan d (is_object v) rest ≡ true → IsAccepted d rest v)
    → cond value (scan d (is_object v) parts) (cond child (scan_past d (is_object v) parts) ((is_before_2020 d && is_items_or_dependencies k) && is_object v)) ≡ true → IsAccepted d (Key k ∷ parts) v
at_key d v k parts true child is other on rests h = add d v parts (AValue k) is (on h)
at_key d v k parts false true is other on rests h = past d v k parts other rests h
at_key d v k parts false false is other on rests h =
    let both = and_parts (is_before_2020 d && is_items_or_dependencies k) (is_object v) h in
    let facts = and_parts (is_before_2020 d) (is_items_or_dependencies k) both.0 in
    inr (record { before = facts.0; object = both.1; pieces = []; keyword = k; rest = parts; word = tt; items = facts.1; spells = refl })

mutual
  sound : (d : Draft) (v : Data) (parts : List Part) → scan d (is_object v) parts ≡ true → IsAccepted d parts v
  sound d v [] h = inl (record { pieces = []; word = tt; spells = refl })
  sound d v (Index i ∷ parts) h = add d v parts (AnIndex i) tt (sound d v parts h)
  sound d v (Key k ∷ parts) h = at_key d v k parts (is_value_keyword d k) (is_child_keyword d k) refl refl (sound d v parts) (sound_after d v parts) h

  sound_after : (d : Draft) (v : Data) (parts : List Part) (part : Part) (rest : List Part) → parts ≡ part ∷ rest → scan d (is_object v) rest ≡ true → IsAccepted d rest v
  sound_after d v [] part rest is h = absurd (cc)
  sound_after d v (first ∷ parts) part rest is h =
      let same : parts ≡ rest = cc in
      rw (← same) (sound d v parts (rw same h))

-- ---- what is accepted, the scan accepts

-- the scan goes on after a piece
passes : (d : Draft) (object : Bool) (piece : Piece) (rest : List Part) → IsPieceOf d piece → scan d object (parts_of piece ++ rest) ≡ scan d object rest
passes d object (AnIndex i) rest ok = refl
passes d object (AValue k) rest ok = scan-value d object k rest ok
passes d object (AChild k part) rest ok = scan-child d object k (part ∷ rest) ok

-- and after a word
pub passes_word : (d : Draft) (object : Bool) (pieces : List Piece) (rest : List Part) → IsWord d pieces → scan d object (spelled_path pieces ++ rest) ≡ scan d object rest
passes_word d object [] rest word = refl
passes_word d object (piece ∷ pieces) rest word =
    ap (scan d object) (append_assoc (parts_of piece) (spelled_path pieces) rest) ∙ passes d object piece (spelled_path pieces ++ rest) word.0 ∙ passes_word d object pieces rest word.1

complete : (d : Draft) (v : Data) (parts : List Part) → IsAccepted d parts v → scan d (is_object v) parts ≡ true
complete d v parts (inl w) = ap (scan d (is_object v)) (w.spells ∙ sym (append-nil (spelled_path w.pieces))) ∙ passes_word d (is_object v) w.pieces [] w.word
complete d v parts (inr w) =
    ap (scan d (is_object v)) w.spells ∙ passes_word d (is_object v) w.pieces (Key w.keyword ∷ w.rest) w.word
    ∙ scan-items d (is_object v) w.keyword w.rest (record { before = w.before; items = w.items }) ∙ w.object

pub scan_accepts : (d : Draft) (v : Data) (parts : List Part) → (scan d (is_object v) parts ≡ true) ↔ IsAccepted d parts v
scan_accepts d v parts = (sound d v parts, complete d v parts)

pub accepted : (d : Draft) (v : Data) (parts : List Part) → scan d (is_object v) parts ≡ true → IsAccepted d parts v
accepted = sound

pub refused : (d : Draft) (v : Data) (parts : List Part) → scan d (is_object v) parts ≡ false → IsAccepted d parts v → ⊥
refused d v parts e h = true≢false (sym (complete d v parts h) ∙ e)

-- a word followed by a child keyword alone
pub stops_within : (d : Draft) (v : Data) (parts : List Part) (k : List ℕ) → SpellsWord d parts → is_child_keyword d k ≡ true → IsAccepted d (parts ++ Key k ∷ []) v → ⊥
stops_within d v parts k w child =
    refused d v (parts ++ Key k ∷ [])
    (ap (λ ps. scan d (is_object v) (ps ++ Key k ∷ [])) w.spells ∙ passes_word d (is_object v) w.pieces (Key k ∷ []) w.word ∙ scan-child d (is_object v) k [] child)
