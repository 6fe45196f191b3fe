use Rattle.std.proofs.Common.{◌≢◌, ℕ, List, ◌<◌, length, get_or, subst}
use Rattle.std.proofs.lemmas.Bool.{not-true}
use Rattle.ref_uri.specs.Components.{components}
use Rattle.ref_uri.specs.inner.Target.{LacksTriples}
use Rattle.ref_uri.proofs.PlainText.{plain_text, plain_components}
use Rattle.ref_uri.proofs.reference.UriRef.lacks_triples.Goals as goal

pub returns : goal.returns
returns c = λ yes.
    let text = c.self.inside.text.now in
    let none = subst (λ (t : List ℕ). (k : ℕ) → k < length t → get_or t k 0 ≢ 37) c.as_bytes.ensures.value (c.holds.ensures (not-true c.holds.result yes)) in
    subst (λ (t : List ℕ). LacksTriples (components t)) c.self.view_is (plain_components text (plain_text text none))
