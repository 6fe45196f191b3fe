-- Which references mean no URI.
use Rattle.std.proofs.Common.{◌≡◌, ◌∙◌, ℕ, zero, suc, Bool, true, false, ◌&&◌, not, List, [], ◌∷◌, Option, Some, None, Result, Ok, Err, option_map, take, get_or, cond, eqb, is_some, ap, refl}
use Rattle.std.specs.List.{list_any, before_last, ends_with}
use Rattle.ref_uri.specs.Components.{scheme}
use Rattle.ref_uri.specs.Reference.{is_uri_reference}
use Rattle.ref_uri.specs.Targets.{uri_part, uri_against, target}
use Rattle.ref_uri.proofs.Hashes.{is_hash}
use Rattle.ref_uri.proofs.Meanings.{against_target, against_refused}
use Rattle.std.specs.Result.{result_ok}
use Rattle.ref_uri.specs.Targets.{Refusal}
use Rattle.ref_findings.specs.Places.{is_refused}

-- a text means no URI where it has none
pub none_refused : {X : Type 0} (uri : Option X) (f : X → List ℕ) (meaning : Result (List ℕ) Refusal) → option_map f uri ≡ result_ok meaning → not (is_some uri) ≡ is_refused (Some meaning)
none_refused None f (Ok u) is = cc
none_refused None f (Err refusal) is = refl
none_refused (Some x) f (Ok u) is = refl
none_refused (Some x) f (Err refusal) is = cc

-- a text that doesn't begin with `#` has no beginning that does
first_of_take : (n : ℕ) (text : List ℕ) → eqb (get_or text 0 0) 35 ≡ false → eqb (get_or (take n text) 0 0) 35 ≡ false
first_of_take zero text other = refl
first_of_take (suc n) [] other = refl
first_of_take (suc n) (c ∷ text) other = other

first_of_part : (reference : List ℕ) → eqb (get_or reference 0 0) 35 ≡ false → eqb (get_or (uri_part reference) 0 0) 35 ≡ false
first_of_part reference other = by_hash (list_any is_hash reference)
  where
    by_hash : (b : Bool) → eqb (get_or (cond b (before_last is_hash reference) reference) 0 0) 35 ≡ false
    by_hash true = first_of_take _ reference other
    by_hash false = other

-- a reference that doesn't begin with `#` means no URI where its URI part is no URI reference
pub refused_is : (base reference : List ℕ) (accepted : Bool) → eqb (get_or reference 0 0) 35 ≡ false → is_some (scheme base) ≡ true → is_uri_reference (uri_part reference) ≡ accepted
    → is_refused (Some (target base reference)) ≡ not accepted
refused_is base reference accepted other scheme_is is =
    ap (λ b. is_refused (Some (cond b (Ok base) (uri_against base (uri_part reference))))) other ∙ by_part (uri_part reference) accepted (first_of_part reference other) is
  where
    by_part : (text : List ℕ) (b : Bool) → eqb (get_or text 0 0) 35 ≡ false → is_uri_reference text ≡ b → is_refused (Some (uri_against base text)) ≡ not b
    by_part text true first accepted_is = ap (λ m. is_refused (Some m)) (against_target base text scheme_is (ap (λ b. b && ends_with eqb base text) first) accepted_is)
    by_part text false first accepted_is = ap (λ m. is_refused (Some m)) (against_refused base text scheme_is (ap (λ b. b && ends_with eqb base text) first) accepted_is)
