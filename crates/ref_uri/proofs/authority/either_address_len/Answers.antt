use Rattle.std.proofs.Common.{◌≡◌, ◌∙◌, ℕ, ◌-◌, ◌||◌, true, false, eqb, take, drop, get_or, length, List, Some, None, arith, subst}
use Rattle.std.proofs.lemmas.Bool.Decides.{nat_tests}
use Rattle.std.proofs.lemmas.List.{take_rest}
use Rattle.ref_uri.specs.Authority.{is_version_and_address}
use Rattle.ref_uri.proofs.BracketLemmas.{address_either, future_either, letter_found, other_found}
use Rattle.ref_uri.proofs.authority.either_address_len.Goals as goal
use Rattle.ref_uri.proofs.authority.either_address_len.Goals.{in_default-via-then-text-lt1, in_default-via-else-text-lt1+in_default-1}

pub returns-in-Some-clause-sound : goal.returns-in-Some-clause-sound
returns-in-Some-clause-sound c = λ _.
    let first : (eqb (get_or c.args.text.now 0 0) 118 || eqb (get_or c.args.text.now 0 0) 86) ≡ true = grind (arith, nat_tests) in
    future_either c.args.text.now c.in-Some.len first (subst (λ (l : List ℕ). is_version_and_address (take c.in-Some.len l) ≡ true) (take_rest c.args.text.now 1) c.in-Some.ensures.sound)

pub returns-in-Some-clause-found : goal.returns-in-Some-clause-found
returns-in-Some-clause-found c = λ n lt either bracket.
    let first : (eqb (get_or c.args.text.now 0 0) 118 || eqb (get_or c.args.text.now 0 0) 86) ≡ true = grind (arith, nat_tests) in
    let found = letter_found c.args.text.now (take (length c.args.text.now - 1) (drop 1 c.args.text.now)) (Some c.in-Some.len) (take_rest c.args.text.now 1) c.in-Some.ensures.found first n lt either bracket in
    let len : c.in-Some.len ≡ n - 1 = cc in
    (found.0, omega arith)

pub returns-in-None-clause-found : goal.returns-in-None-clause-found
returns-in-None-clause-found c = λ n lt either bracket.
    let first : (eqb (get_or c.args.text.now 0 0) 118 || eqb (get_or c.args.text.now 0 0) 86) ≡ true = grind (arith, nat_tests) in
    let found = letter_found c.args.text.now (take (length c.args.text.now - 1) (drop 1 c.args.text.now)) None (take_rest c.args.text.now 1) c.in-None.ensures.found first n lt either bracket in
    cc

pub returns-in_default-clause-sound : goal.returns-in_default-clause-sound
returns-in_default-clause-sound c = λ some.
    address_either c.args.text.now c.address_len.result c.address_len.ensures.value some

pub returns-in_default-clause-found : goal.returns-in_default-clause-found
returns-in_default-clause-found c = λ n lt either bracket.
    let other : (eqb (get_or c.args.text.now 0 0) 118 || eqb (get_or c.args.text.now 0 0) 86) ≡ false =
    elim c.in_default.branch [ in_default-via-then-text-lt1 w ↦ grind (arith, nat_tests) | in_default-via-else-text-lt1+in_default-1 w ↦ grind (arith, nat_tests) ] in
    let found = other_found c.args.text.now other n lt either bracket in
    (found.0, c.address_len.ensures.value ∙ found.1)
