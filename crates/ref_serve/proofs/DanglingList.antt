-- Entries of unresolvable references, which become objects one after another.
use Rattle.std.proofs.Common.{◌≡◌, List, [], ◌∷◌, ◌++◌, map, ap, ◌∙◌, append_assoc}
use Rattle.std.specs.List.{AllZip}
use Rattle.serde_json.specs.Data.{Data}
use Rattle.ref_lint.specs.declared.entry.Dangling.{Dangling}
use Rattle.ref_lint.specs.Dangling.{DanglingReference}
use Rattle.ref_lint.specs.Entries.{IsEntryOf}
use Rattle.ref_serve.specs.Listings.{dangling_object}

-- the objects so far, before those of the entries that are left, are all of them
abbrev pub IsLeft : List Dangling → List Data → List Data → Type 0
IsLeft entries done all = (rs : List DanglingReference) × AllZip IsEntryOf entries rs × (done ++ map dangling_object rs ≡ all)

pub one_object_more : (entry : Dangling) (rest : List Dangling) (done all : List Data) (made : Data) → IsLeft (entry ∷ rest) done all → ((r : DanglingReference) → IsEntryOf entry r → made ≡ dangling_object r)
    → IsLeft rest (done ++ made ∷ []) all
one_object_more entry rest done all made ([], zip, is) of = absurd zip
one_object_more entry rest done all made (r ∷ rs, zip, is) of =
    (rs, zip.1, append_assoc done (made ∷ []) (map dangling_object rs) ∙ ap (λ o. done ++ o ∷ map dangling_object rs) (of r zip.0) ∙ is)
