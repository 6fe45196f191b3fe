use Rattle.std.proofs.Common.{◌≡◌, None, Some, [], ◌∷◌, inl, inr, refl, sym, true≢false}
use Rattle.ref_draft.specs.declared.draft.Draft.TheVariants.{Draft202012}
use Rattle.ref_draft.specs.Rows.{yes, one, list, key}
use Rattle.ref_draft.proofs.Scanning.{refused}
use Rattle.ref_draft.proofs.Beginnings.{none_of_one}
use Rattle.ref_draft.proofs.examples.scan.beginnings_of_paths.Goals as goal

pub returns : goal.returns
returns c = record {
  an_array = refl;
  no_array = refl;
  a_map = record { object = refl; keyword_of_a_map = refl };
  no_map = λ m. true≢false (sym m.keyword_of_a_map);
  no_object = λ m. true≢false (sym m.object);
  in_an_array = record { within = list yes; there = refl; between = inl refl; not_accepted = λ after. absurd (true≢false after) };
  in_a_map = record {
    within = one "x" yes;
    there = refl;
    between = inr (record { object = refl; keyword_of_a_map = refl });
    not_accepted = λ after. refused Draft202012 (one "x" yes) (key "not" ∷ key "properties" ∷ []) refl;
  };
  nowhere = λ e. let none : None ≡ Some e.within = e.there in cc;
  all = (λ beginning rest is some more. absurd (none_of_one _ beginning rest is some more), tt);
}
