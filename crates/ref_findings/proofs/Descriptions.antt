-- By which keyword a root is that of a description.
use Rattle.std.proofs.Common.{◌≡◌, ◌∙◌, Bool, true, false, Option, Some, None, is_some, List, ℕ, refl, ap, codes, cond}
use Rattle.serde_json.specs.Data.{Data}
use Rattle.serde_json.specs.Find.{get}
use Rattle.ref_findings.specs.Findings.{description_keyword}

abbrev pub has : List ℕ → Data → Bool
has keyword tree = is_some (get keyword tree)

abbrev by : Bool → Bool → Bool → Option (List ℕ)
by a b c = cond a (Some (codes "openapi")) (cond b (Some (codes "swagger")) (cond c (Some (codes "asyncapi")) None))

pub first : (tree : Data) → has (codes "openapi") tree ≡ true → description_keyword tree ≡ Some (codes "openapi")
first tree is = ap (λ a. by a (has (codes "swagger") tree) (has (codes "asyncapi") tree)) is

pub second : (tree : Data) → has (codes "openapi") tree ≡ false → has (codes "swagger") tree ≡ true → description_keyword tree ≡ Some (codes "swagger")
second tree absent is = ap (λ a. by a (has (codes "swagger") tree) (has (codes "asyncapi") tree)) absent ∙ ap (λ b. by false b (has (codes "asyncapi") tree)) is

pub third : (tree : Data) → has (codes "openapi") tree ≡ false → has (codes "swagger") tree ≡ false → has (codes "asyncapi") tree ≡ true → description_keyword tree ≡ Some (codes "asyncapi")
third tree absent nor is =
    ap (λ a. by a (has (codes "swagger") tree) (has (codes "asyncapi") tree)) absent ∙ ap (λ b. by false b (has (codes "asyncapi") tree)) nor ∙ ap (by false false) is

pub none : (tree : Data) → has (codes "openapi") tree ≡ false → has (codes "swagger") tree ≡ false → has (codes "asyncapi") tree ≡ false → description_keyword tree ≡ None
none tree absent nor is =
    ap (λ a. by a (has (codes "swagger") tree) (has (codes "asyncapi") tree)) absent ∙ ap (λ b. by false b (has (codes "asyncapi") tree)) nor ∙ ap (by false false) is
