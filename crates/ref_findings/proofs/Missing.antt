-- A reference to a URI under which nothing is.
use Rattle.std.proofs.Common.{◌≡◌, ◌∙◌, ◌==◌, ℕ, List, true, false, Some, None, length, ap}
use Rattle.std.specs.Prelude.{if◌then◌else◌}
use Rattle.ref_uri.specs.Targets.{fragment_part}
use Rattle.ref_findings.specs.Findings.{MissingDocument, Unchecked, is_meta_schema, missing_problem}

pub missing_document : (uri reference : List ℕ) → is_meta_schema uri ≡ false → missing_problem uri reference ≡ Some (MissingDocument uri)
missing_document uri reference is = ap (λ b. if b then (if length (fragment_part reference) == 0 then None else Some (Unchecked uri)) else Some (MissingDocument uri)) is

known : (uri reference : List ℕ) → is_meta_schema uri ≡ true → missing_problem uri reference ≡ (if length (fragment_part reference) == 0 then None else Some (Unchecked uri))
known uri reference is = ap (λ b. if b then (if length (fragment_part reference) == 0 then None else Some (Unchecked uri)) else Some (MissingDocument uri)) is

pub whole : (uri reference : List ℕ) → is_meta_schema uri ≡ true → (length (fragment_part reference) == 0) ≡ true → missing_problem uri reference ≡ None
whole uri reference is empty = known uri reference is ∙ ap (λ b. if b then None else Some (Unchecked uri)) empty

pub unchecked : (uri reference : List ℕ) → is_meta_schema uri ≡ true → (length (fragment_part reference) == 0) ≡ false → missing_problem uri reference ≡ Some (Unchecked uri)
unchecked uri reference is empty = known uri reference is ∙ ap (λ b. if b then None else Some (Unchecked uri)) empty
