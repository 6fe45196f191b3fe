use Rattle.std.proofs.Common.{◌≡◌, sym, ◌∙◌, vec_len, length, rules}
use Rattle.serde_json.proofs.Views.{view-Array}
use Rattle.ref_calls.proofs.Documents.{not_pair}
use Rattle.ref_calls.proofs.document.document_of.Goals as goal

pub returns-then-len-ne2 : goal.returns-then-len-ne2
returns-then-len-ne2 c =
    let long : length c.in-Array.items.items ≡ vec_len c.in-Array.items = search rules in
    rw (c.in-Array.is, view-Array) (not_pair c.in-Array.items.items (λ is. c.if-len-ne2.true (c.len.ensures ∙ sym long ∙ is)))
