use Rattle.std.proofs.Common.{◌∙◌, ℕ, ◌-◌, get_or, Some, ap, arith}
use Rattle.ref_uri.proofs.BracketLemmas.{bracket_sound, bracket_found}
use Rattle.ref_uri.proofs.authority.address_and_bracket_len.Goals as goal
use Rattle.ref_uri.proofs.authority.address_and_bracket_len.Goals.{then-address-eq0-via-then-address-eq0, then-address-eq0-via-else-address-eq0+then-address-text, then-address-eq0-via-else-address-eq0+else-address-text+then-text-address-ne93}

pub returns-then-address-eq0-clause-found : goal.returns-then-address-eq0-clause-found
returns-then-address-eq0-clause-found c = λ n le h.
    let found = bracket_found c.args.text.now n le h in
    let is = c.either_address_len-address.ensures.found (n - 1) (omega arith) found.1.1 found.1.0 in
    elim c.then-address-eq0.branch [
      | then-address-eq0-via-then-address-eq0 w ↦ absurd (omega arith)
      | then-address-eq0-via-else-address-eq0+then-address-text w ↦ absurd (omega arith)
      | then-address-eq0-via-else-address-eq0+else-address-text+then-text-address-ne93 w ↦ absurd (w.if-text-address-ne93.true (ap (λ k. get_or c.args.text.now k 0) is.1 ∙ found.1.0))
    ]

pub returns-clause-sound : goal.returns-clause-sound
returns-clause-sound c =
    bracket_sound c.args.text.now c.either_address_len-address.result (omega arith) (c.either_address_len-address.ensures.sound (omega arith)) (c.if-text-address-ne93.false)

pub returns-clause-found : goal.returns-clause-found
returns-clause-found c = λ n le h.
    let found = bracket_found c.args.text.now n le h in
    let is = c.either_address_len-address.ensures.found (n - 1) (omega arith) found.1.1 found.1.0 in
    ap (λ (k : ℕ). Some k) (omega arith)
