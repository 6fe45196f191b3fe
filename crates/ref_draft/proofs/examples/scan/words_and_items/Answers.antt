use Rattle.std.proofs.Common.{refl}
use Rattle.std.proofs.Common.{[], ◌∷◌, codes, inl, sym, true≢false}
use Rattle.ref_paths.specs.Path.{Index}
use Rattle.ref_draft.specs.declared.draft.Draft.TheVariants.{Draft7, Draft202012}
use Rattle.ref_draft.specs.Scan.{AnIndex, AValue, AChild}
use Rattle.ref_draft.specs.Rows.{empty, yes, key}
use Rattle.ref_draft.proofs.Scanning.{accepted, refused}
use Rattle.ref_draft.proofs.examples.scan.words_and_items.Goals as goal

pub returns : goal.returns
returns c = record {
  no_parts = record { pieces = []; word = tt; spells = refl };
  a_word = record { pieces = AChild (codes "$defs") (key "const") ∷ AValue (codes "not") ∷ AnIndex 0 ∷ []; word = (refl, (refl, (tt, tt))); spells = refl };
  no_word = λ w. refused Draft7 yes (key "items" ∷ []) refl (inl w);
  after_items = record { before = refl; object = refl; pieces = []; keyword = codes "items"; rest = Index 0 ∷ []; word = tt; items = refl; spells = refl };
  after_a_word = record { before = refl; object = refl; pieces = AValue (codes "not") ∷ []; keyword = codes "dependencies"; rest = key "const" ∷ []; word = (refl, tt); items = refl; spells = refl };
  not_since_2020 = λ p. true≢false (sym p.before);
  no_object = λ p. true≢false (sym p.object);
  accepted_children = (λ there. accepted Draft202012 empty (key "not" ∷ []) refl, (λ there. accepted Draft202012 yes (key "$defs" ∷ key "a" ∷ []) refl, tt));
  no_children = tt;
}
