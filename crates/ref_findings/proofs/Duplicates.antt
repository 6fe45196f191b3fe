-- What another place has first.
use Rattle.std.proofs.Common.{◌≡◌, ◌∙◌, ◌==◌, [], ℕ, true, false, List, Option, Some, None, option_map, sym, ap}
use Rattle.std.specs.Prelude.{if◌then◌else◌, option_and_then}
use Rattle.ref_findings.specs.Places.{nearest_base}
use Rattle.ref_findings.specs.Bearers.{Site, first_under, other_bearer, in_source}
use Rattle.ref_findings.specs.Findings.{Known, DuplicateIdentifier, DuplicateAnchor, uri_problem, name_problem}

pub uri_problem_is : (k : Known) (number : ℕ) (uri : List ℕ) (o : Option Site) (p : Option ℕ) → p ≡ first_under uri [] k.uris → other_bearer k.sites number p ≡ o
    → uri_problem k number uri ≡ option_map (λ (s : Site). DuplicateIdentifier uri s.0 s.1.path) o
uri_problem_is k number uri o p first is = ap (option_map (λ (s : Site). DuplicateIdentifier uri s.0 s.1.path)) (ap (other_bearer k.sites number) (sym first) ∙ is)

pub name_problem_is : (k : Known) (number : ℕ) (s : Site) (base name : List ℕ) (o : Option Site) (p : Option ℕ) → base ≡ nearest_base s.1 → p ≡ first_under base name k.names → other_bearer k.sites number p ≡ o
    → name_problem k number s name ≡ option_map (λ (t : Site). DuplicateAnchor base t.0 t.1.path) (option_and_then (in_source s.0) o)
name_problem_is k number s base name o p near first is =
    ap (λ b. option_map (λ (t : Site). DuplicateAnchor b t.0 t.1.path) (option_and_then (in_source s.0) (other_bearer k.sites number (first_under b name k.names)))) (sym near)
    ∙ ap (λ x. option_map (λ (t : Site). DuplicateAnchor base t.0 t.1.path) (option_and_then (in_source s.0) x)) (ap (other_bearer k.sites number) (sym first) ∙ is)

pub elsewhere : (n : ℕ) (t : Site) → (t.0 == n) ≡ false → in_source n t ≡ None
elsewhere n t differ = ap (λ b. if b then Some t else None) differ

pub here : (n : ℕ) (t : Site) → (t.0 == n) ≡ true → in_source n t ≡ Some t
here n t same = ap (λ b. if b then Some t else None) same
