use Rattle.std.proofs.Common.{◌≡◌, ◌≢◌, ◌<◌, ℕ, false, length, get_or, subst}
use Rattle.std.specs.List.{list_any}
use Rattle.ref_uri.proofs.Hashes.{is_hash, no_hash, uri_part-whole, fragment_part-hashless}
use Rattle.ref_uri.proofs.parts.parts.Goals as goal

pub returns-else-may_hold : goal.returns-else-may_hold
returns-else-may_hold c =
    let free : (k : ℕ) → k < length c.args.reference.now → get_or c.args.reference.now k 0 ≢ 35 =
    subst (λ bytes. (k : ℕ) → k < length bytes → get_or bytes k 0 ≢ 35) c.as_bytes.ensures.value (c.may_hold.ensures c.if-may_hold.false) in
    let none : list_any is_hash c.args.reference.now ≡ false = no_hash c.args.reference.now free in
    record { uri = uri_part-whole c.args.reference.now none; fragment = fragment_part-hashless c.args.reference.now none }
