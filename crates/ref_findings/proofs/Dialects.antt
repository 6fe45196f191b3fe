-- What is noted on a `$schema`, by whether it is that of a draft.
use Rattle.std.proofs.Common.{◌≡◌, ℕ, List, Bool, true, false, not, Some, None, refl, ap}
use Rattle.std.specs.Prelude.{option_and_then, if◌then◌else◌}
use Rattle.ref_draft.specs.Keywords.{is_unknown}
use Rattle.ref_draft.specs.Schema.{from_schema_uri}
use Rattle.ref_findings.specs.Findings.{Known, by_dialect, schema_problem}
use Rattle.ref_index.specs.Meanings.{meta_schema_uri}

pub not_true : (b : Bool) → not b ≡ true → b ≡ false
not_true true is = cc
not_true false is = refl

pub not_false : (b : Bool) → not b ≡ false → b ≡ true
not_false true is = refl
not_false false is = cc

pub of_draft : (known : Known) (text : List ℕ) → is_unknown (from_schema_uri text) ≡ false → schema_problem known text ≡ None
of_draft known text is = ap (λ b. option_and_then (by_dialect known) (if b then Some (meta_schema_uri text) else None)) is

pub of_none : (known : Known) (text : List ℕ) → is_unknown (from_schema_uri text) ≡ true → schema_problem known text ≡ by_dialect known (meta_schema_uri text)
of_none known text is = ap (λ b. option_and_then (by_dialect known) (if b then Some (meta_schema_uri text) else None)) is
