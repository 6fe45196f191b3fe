-- By which draft a bundle is read.
use Rattle.std.proofs.Common.{◌≡◌, ◌∙◌, ℕ, refl, ap, codes}
use Rattle.std.specs.Option.{option_map_or}
use Rattle.ref_draft.specs.declared.draft.Draft.{Draft}
use Rattle.ref_draft.specs.Schema.{detect, from_schema_uri}
use Rattle.ref_definitions.specs.World.{Document, Layer, World}
use Rattle.ref_bundle.specs.Bundle.{Bundle, to_embed}
use Rattle.ref_bundle_laws.specs.Kept.{IsBundle}
use Rattle.ref_bundle_laws.proofs.LawFacts.{made}
use Rattle.ref_bundle_laws.proofs.LawTop.{text_top}
use Rattle.ref_bundle.specs.Needed.{Further}

pub read_as_its_root : (layer : Layer) (fs : Further) (parents : World) (n : ℕ) (top : Document) (bundle : Bundle) → IsBundle layer fs parents n top bundle → (reader : Draft) → detect reader bundle.value ≡ detect reader top.tree
read_as_its_root layer fs parents n top bundle is reader =
    let same = (made layer fs parents n top bundle is).2 in
    ap (λ (b : Bundle). detect reader b.value) same ∙ ap (λ text. option_map_or from_schema_uri text reader) (text_top top (to_embed layer fs n) (codes "$schema") refl refl)
