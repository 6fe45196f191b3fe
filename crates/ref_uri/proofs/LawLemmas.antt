-- The laws that `src/laws.rt` states.
use Rattle.std.proofs.Common.{◌≡◌, List, ℕ, true, sym, ap, ◌∙◌}
use Rattle.ref_uri.specs.Components.{components, are_components}
use Rattle.ref_uri.specs.Reference.{is_uri_reference, IsTextOfComponents}
use Rattle.ref_uri.proofs.StructureLemmas.{text_of-components}
use Rattle.ref_uri.proofs.UniqueLemmas.{components-text_of}

pub to_components : (text : List ℕ) → is_uri_reference text ≡ true → IsTextOfComponents text
unfolding is_uri_reference
to_components text h = (components text, h, sym (text_of-components text))

pub from_components : (text : List ℕ) → IsTextOfComponents text → is_uri_reference text ≡ true
unfolding is_uri_reference
from_components text (c, h, is) = ap (λ t. are_components (components t)) is ∙ ap are_components (components-text_of c h) ∙ h
