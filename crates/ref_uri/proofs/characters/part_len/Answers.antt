use Rattle.std.proofs.Common.{◌≡◌, ◌∙◌, ℕ, sym, subst, true, take, arith}
use Rattle.std.specs.List.{position_or_len}
use Rattle.ref_uri.specs.Characters.{is_encoded}
use Rattle.ref_uri.specs.inner.Class.{allows, ends}
use Rattle.ref_uri.proofs.EncodedLemmas.{part_is, part_is_not}
use Rattle.ref_uri.proofs.characters.part_len.Goals as goal
use Rattle.ref_uri.proofs.characters.part_len.Goals.{else-len-bytes-via-then-len-bytes+else-not-ends, else-len-bytes-via-else-len-bytes}

pub returns-then-not-ends-clause-accepted : goal.returns-then-not-ends-clause-accepted
returns-then-not-ends-clause-accepted c =
    let run = c.encoded_len-len in
    sym (part_is_not c.args.class c.args.bytes.now run.result c.if-len-bytes.true run.ensures.encoded run.ensures.longest (sym c.ends.ensures ∙ c.if-not-ends.true))

-- the run ends where the part does
ends_there : (c : goal.Joined-else-len-bytes) → position_or_len (ends c.args.class) c.args.bytes.now ≡ c.encoded_len-len.result
ends_there c =
    let run = c.encoded_len-len in
    part_is c.args.class c.args.bytes.now run.result run.ensures.within run.ensures.encoded
    (elim c.else-len-bytes.branch [
      | else-len-bytes-via-then-len-bytes+else-not-ends w ↦ λ _. sym w.ends.ensures ∙ w.if-not-ends.false
      | else-len-bytes-via-else-len-bytes w ↦ λ more. absurd (omega arith)
    ])

pub returns-clause-accepted : goal.returns-clause-accepted
returns-clause-accepted c =
    sym (subst (λ (n : ℕ). is_encoded (allows c.args.class) (take n c.args.bytes.now) ≡ true) (sym (ends_there c)) c.encoded_len-len.ensures.encoded)

pub returns-clause-len : goal.returns-clause-len
returns-clause-len c = sym (ends_there c)
