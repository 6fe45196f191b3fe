use Rattle.std.proofs.Common.{◌≡◌, ◌++◌, OnOk, string_bytes, subst, arith}
use Rattle.std.proofs.lemmas.List.Elements.{All-from_get_or}
use Rattle.percent_encoding.specs.Percent.{percent_decode}
use Rattle.ref_parts.proofs.EncodedLaws.{IsByte, IsEncoded-after, decoded-after}
use Rattle.ref_parts.proofs.encoded.EncodedBuffer.push_str.Goals as goal

pub invariant_of-self : goal.invariant_of-self
invariant_of-self c =
    let more = c.args.text.now in
    let small = All-from_get_or IsByte more 0 (λ i within. omega (arith, c.type_inv.text i)) in
    let ok = rw c.utf8_percent_encode.ensures.text at c.append_to.ensures.ok in
    IsEncoded-after c.append_to.result (string_bytes c.self.inside.text) (string_bytes c.append_to.new.out) more c.self.invariant small c.utf8.text ok c.append_to.ensures.err

pub returns-clause-ok : goal.returns-clause-ok
returns-clause-ok c =
    let more = c.args.text.now in
    let small = All-from_get_or IsByte more 0 (λ i within. omega (arith, c.type_inv.text i)) in
    let ok = rw c.utf8_percent_encode.ensures.text at c.append_to.ensures.ok in
    let read = decoded-after c.append_to.result (string_bytes c.self.inside.text) (string_bytes c.append_to.new.out) more c.self.invariant small c.utf8.text ok in
    subst (λ old. OnOk c.append_to.result (percent_decode (string_bytes c.append_to.new.out) ≡ old ++ more)) c.self.view_is read
