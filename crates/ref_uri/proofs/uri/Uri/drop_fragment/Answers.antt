use Rattle.std.proofs.Common.{◌≡◌, ◌∙◌, List, ℕ, None, sym, ap, subst, length, take, string_bytes, refl}
use Rattle.std.specs.Option.{option_copied}
use Rattle.ref_uri.specs.Reference.{with_fragment}
use Rattle.ref_uri.specs.inner.Lengths.{IsParsedUri}
use Rattle.ref_uri.proofs.FragmentLemmas.{with_fragment-dropped, parsed_uri-with_fragment}
use Rattle.ref_uri.proofs.uri.Uri.drop_fragment.Goals as goal

-- the text up to the fragment
cut_is : (c : goal.After-truncate) → string_bytes c.truncate.new.self ≡ with_fragment (string_bytes c.self.inside.text) None
cut_is c =
    let stripped = c.as_str-len.ensures.value ∙ c.strip_fragment.ensures.value ∙ ap (λ t. with_fragment t None) (sym c.self.view_is) in
    c.truncate.ensures.bytes ∙ ap (λ t. take (length t) (string_bytes c.self.inside.text)) stripped ∙ with_fragment-dropped (string_bytes c.self.inside.text)

pub invariant_of-self : goal.invariant_of-self
invariant_of-self c =
    subst (λ (t : List ℕ). IsParsedUri t c.self.inside.lengths) (sym (cut_is c)) (parsed_uri-with_fragment (string_bytes c.self.inside.text) c.self.inside.lengths None c.self.invariant refl)

pub returns : goal.returns
returns c = record { value = cut_is c ∙ ap (λ t. with_fragment t None) c.self.view_is }
