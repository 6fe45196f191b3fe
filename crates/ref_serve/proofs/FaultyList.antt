-- Findings that become objects one after another.
use Rattle.std.proofs.Common.{◌≡◌, List, [], ◌∷◌, ◌++◌, flat_map, sym, ap, ◌∙◌, append_assoc, append-nil}
use Rattle.std.specs.List.{AllZip}
use Rattle.std.specs.Option.{option_to_list}
use Rattle.serde_json.specs.Data.{Data}
use Rattle.ref_findings.specs.declared.finding.Finding as rust
use Rattle.ref_findings.specs.Findings.{Finding}
use Rattle.ref_findings.specs.Entries.{IsFindingOf}
use Rattle.ref_serve.specs.Faults.{finding_object}

abbrev pub objects_of : List Finding → List Data
objects_of fs = flat_map (λ f. option_to_list (finding_object f)) fs

-- the objects so far, before those of the findings that are left, are all of them
abbrev pub IsLeft : List rust.Finding → List Data → List Data → Type 0
IsLeft found done all = (fs : List Finding) × AllZip IsFindingOf found fs × (done ++ objects_of fs ≡ all)

pub one_finding_more : (finding : rust.Finding) (rest : List rust.Finding) (done new all : List Data) → IsLeft (finding ∷ rest) done all
    → ((f : Finding) → IsFindingOf finding f → new ≡ done ++ option_to_list (finding_object f)) → IsLeft rest new all
one_finding_more finding rest done new all ([], zip, is) of = absurd zip
one_finding_more finding rest done new all (f ∷ fs, zip, is) of =
    (fs, zip.1, ap (λ d. d ++ objects_of fs) (of f zip.0) ∙ append_assoc done (option_to_list (finding_object f)) (objects_of fs) ∙ is)

pub all_findings : (done all : List Data) → IsLeft [] done all → done ≡ all
all_findings done all ([], zip, is) = sym (append-nil done) ∙ is
all_findings done all (f ∷ fs, zip, is) = absurd zip
