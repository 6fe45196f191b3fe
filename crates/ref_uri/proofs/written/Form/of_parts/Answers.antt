use Rattle.std.proofs.Common.{◌≡◌, ◌≢◌, ℕ, List, ◌<◌, length, get_or, subst, sym, ◌∙◌, inl, inr}
use Rattle.std.proofs.lemmas.List.{map-id}
use Rattle.ref_uri.specs.Normal.{normal_text}
use Rattle.ref_uri.proofs.NormalLemmas.{normal_plain}
use Rattle.ref_uri.proofs.written.Form.of_parts.Goals as goal

pub returns-in-Normal-2 : goal.returns-in-Normal-2
returns-in-Normal-2 c =
    let text = c.args.text.now in
    let none : (i : ℕ) → i < length text → get_or text i 0 ≢ 37 =
    subst (λ (t : List ℕ). (i : ℕ) → i < length t → get_or t i 0 ≢ 37) c.as_bytes.ensures.value (c.holds.ensures c.if-holds.false) in
    let same : text ≡ normal_text text = sym (normal_plain (λ x. x) text none ∙ map-id text) in
    elim c.in-Normal-2.is [ inl normal ↦ rw normal same | inr target ↦ rw target same ]
