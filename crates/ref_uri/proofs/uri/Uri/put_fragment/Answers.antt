use Rattle.std.proofs.Common.{◌≡◌, ◌∙◌, List, ℕ, Bool, Some, None, sym, ap, subst, length, take, ◌++◌, ◌∷◌, [], string_bytes, true, cond, is_ok, arith}
use Rattle.ref_uri.specs.Components.{is_query}
use Rattle.ref_uri.specs.Reference.{with_fragment}
use Rattle.ref_uri.specs.inner.Lengths.{IsParsedUri}
use Rattle.ref_uri.proofs.FragmentLemmas.{with_fragment-put, parsed_uri-with_fragment}
use Rattle.ref_uri.proofs.uri.Uri.put_fragment.Goals as goal

-- what a growth that succeeds leaves
grown : (ok : Bool) (new more old : List ℕ) → new ≡ cond ok more old → ok ≡ true → new ≡ more
grown ok new more old is e = is ∙ ap (λ b. cond b more old) e

-- the text that was put together
put : (inside stripped reserved truncated pushed whole mark f : List ℕ) → stripped ≡ with_fragment inside None → reserved ≡ inside → truncated ≡ take (length stripped) reserved → pushed ≡ truncated ++ mark → mark ≡ 35 ∷ [] → whole ≡ pushed ++ f → whole ≡ with_fragment inside (Some f)
put inside stripped reserved truncated pushed whole mark f a b c d e g =
    g ∙ ap (λ t. t ++ f) (d ∙ ap (λ t. truncated ++ t) e ∙ ap (λ t. t ++ (35 ∷ [])) (c ∙ ap (λ t. take (length stripped) t) b ∙ ap (λ t. take (length t) inside) a))
    ∙ with_fragment-put inside f

whole_is : (c : goal.After-unwrap-2) → string_bytes c.push_str.new.self ≡ with_fragment (string_bytes c.self.inside.text) (Some c.args.fragment.now)
whole_is c =
    put (string_bytes c.self.inside.text) c.as_str-len.result.now (string_bytes c.reserve.new.self) (string_bytes c.truncate.new.self) (string_bytes c.push.new.self) (string_bytes c.push_str.new.self) _ c.args.fragment.now
    (c.as_str-len.ensures.value ∙ c.strip_fragment.ensures.value ∙ ap (λ t. with_fragment t None) (sym c.self.view_is))
    c.in_ok-reserve.ensures.bytes
    c.truncate.ensures.bytes
    (grown _ _ _ _ c.push.ensures.bytes (ap is_ok c.unwrap.ensures))
    (c.push.ensures.ascii (omega arith))
    (grown _ _ _ _ c.push_str.ensures.bytes (ap is_ok c.unwrap-2.ensures))

is_a_fragment : (c : goal.After-unwrap-2) → is_query c.args.fragment.now ≡ true
is_a_fragment c = ap is_query (sym c.as_bytes.ensures.value) ∙ sym c.is_encoded.ensures ∙ c.if-not-is_encoded.false

pub invariant_of-self-2 : goal.invariant_of-self-2
invariant_of-self-2 c =
    subst (λ (t : List ℕ). IsParsedUri t c.self.inside.lengths) (sym (whole_is c)) (parsed_uri-with_fragment (string_bytes c.self.inside.text) c.self.inside.lengths (Some c.args.fragment.now) c.self.invariant (is_a_fragment c))

pub returns-clause-ok : goal.returns-clause-ok
returns-clause-ok c = whole_is c ∙ ap (λ t. with_fragment t (Some c.args.fragment.now)) c.self.view_is
