use Rattle.std.proofs.Common.{◌≡◌, ◌∙◌, ◌++◌, ◌∷◌, [], List, ℕ, ap, string_bytes, lit<}
use Rattle.std.specs.Prelude.{codes}
use Rattle.std.proofs.lemmas.List.{append_assoc}
use Rattle.ref_protocol.specs.Pieces as spec
use Rattle.ref_protocol.proofs.pieces.push_range.Goals as goal

-- six texts one after another
together : (out before a p b q : List ℕ) → ((((((out ++ before) ++ a) ++ p) ++ b) ++ q) ++ 125 ∷ []) ≡ (out ++ before) ++ ((((a ++ p) ++ b) ++ q) ++ 125 ∷ [])
together out before a p b q = simp append_assoc

pub returns : goal.returns
returns c =
    let start = spec.place c.args.range.0 in
    let end = spec.place c.args.range.1 in
    let front = codes "{\"start\":" in
    let between = codes ",\"end\":" in
    record {
      value = c.in_ok-push.ensures.bytes
          ∙ ap (λ e. string_bytes c.push_place-2.new.out ++ e) (c.in_ok-push.ensures.ascii (lit< tt))
          ∙ ap (λ l. l ++ 125 ∷ [])
          (c.in_ok-push_place-2.ensures.value
          ∙ ap (λ l. l ++ end)
          (c.in_ok-push_str-3.ensures.bytes
          ∙ ap (λ l. l ++ between)
          (c.in_ok-push_place.ensures.value ∙ ap (λ l. l ++ start) (c.in_ok-push_str-2.ensures.bytes ∙ ap (λ l. l ++ front) c.in_ok-push_str.ensures.bytes))))
          ∙ together (string_bytes c.args.out.now) c.args.before.now front start between end;
    }
