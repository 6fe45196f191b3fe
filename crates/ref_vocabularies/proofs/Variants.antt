-- The variants that are known vocabularies, and the sets that they are added to.
use Rattle.std.proofs.Common.{◌≡◌, ℕ, not, List, nat_eq, bit_and, sym, refl, ap, ◌∙◌}
use Rattle.std.specs.Int.RustNames.{bit_or}
use Rattle.ref_vocabularies.specs.Vocabularies as known
use Rattle.ref_vocabularies.specs.Vocabularies.{Known, Standard, contains, with_vocabulary}
use Rattle.ref_vocabularies.specs.declared.vocabulary.Vocabulary.{Vocabulary}
use Rattle.ref_vocabularies.specs.declared.vocabulary.Vocabulary.TheVariants.{Core, Applicator, Unevaluated, Validation, Metadata, Format, FormatAnnotation, Content, FormatAssertion, Custom}
use Rattle.ref_vocabularies.specs.Views.{vocabulary_of}
use Rattle.ref_vocabularies.specs.inner.Kept.{known_of, mask}
use Rattle.ref_vocabularies.proofs.Bits.{has_known-bit, known_of-or}

-- what is not custom is known
pub standard_of : (v : Vocabulary) → ((u : List ℕ) → v ≡ Custom u → ⊥) → (k : Known) × (vocabulary_of v ≡ Standard k)
standard_of Core other = (known.Core, refl)
standard_of Applicator other = (known.Applicator, refl)
standard_of Unevaluated other = (known.Unevaluated, refl)
standard_of Validation other = (known.Validation, refl)
standard_of Metadata other = (known.Metadata, refl)
standard_of Format other = (known.Format, refl)
standard_of FormatAnnotation other = (known.FormatAnnotation, refl)
standard_of Content other = (known.Content, refl)
standard_of FormatAssertion other = (known.FormatAssertion, refl)
standard_of (Custom u) other = absurd (other u refl)

-- the test of its bit
pub contains-bit : (bits m : ℕ) (uris : List (List ℕ)) (v : Vocabulary) → ((u : List ℕ) → v ≡ Custom u → ⊥) → m ≡ mask (vocabulary_of v)
    → not (nat_eq (bit_and bits m) 0) ≡ contains (record { standard = known_of bits; customs = uris }) (vocabulary_of v)
contains-bit bits m uris v other e =
    let k = standard_of v other in
    rw e (rw k.1 (has_known-bit bits k.0))

-- to set its bit
pub with-bit : (bits m : ℕ) (uris : List (List ℕ)) (v : Vocabulary) → ((u : List ℕ) → v ≡ Custom u → ⊥) → m ≡ mask (vocabulary_of v)
    → record { standard = known_of (bit_or bits m); customs = uris } ≡ with_vocabulary (record { standard = known_of bits; customs = uris }) (vocabulary_of v)
with-bit bits m uris v other e =
    let k = standard_of v other in
    rw e (rw k.1 (ap (λ ks. record { standard = ks; customs = uris }) (known_of-or bits k.0)))

-- the variant of a vocabulary
variant : known.Vocabulary → Vocabulary
variant (Standard known.Core) = Core
variant (Standard known.Applicator) = Applicator
variant (Standard known.Unevaluated) = Unevaluated
variant (Standard known.Validation) = Validation
variant (Standard known.Metadata) = Metadata
variant (Standard known.Format) = Format
variant (Standard known.FormatAnnotation) = FormatAnnotation
variant (Standard known.Content) = Content
variant (Standard known.FormatAssertion) = FormatAssertion
variant (known.Custom uri) = Custom uri

variant_of : (v : Vocabulary) → variant (vocabulary_of v) ≡ v
unfolding variant
variant_of Core = refl
variant_of Applicator = refl
variant_of Unevaluated = refl
variant_of Validation = refl
variant_of Metadata = refl
variant_of Format = refl
variant_of FormatAnnotation = refl
variant_of Content = refl
variant_of FormatAssertion = refl
variant_of (Custom uri) = refl

-- variants of one vocabulary are one
pub one_to_one : (v w : Vocabulary) → vocabulary_of v ≡ vocabulary_of w → v ≡ w
one_to_one v w e = sym (variant_of v) ∙ ap variant e ∙ variant_of w

-- each vocabulary is a variant's
pub onto : (d : known.Vocabulary) → (v : Vocabulary) × (vocabulary_of v ≡ d)
onto (Standard known.Core) = (Core, refl)
onto (Standard known.Applicator) = (Applicator, refl)
onto (Standard known.Unevaluated) = (Unevaluated, refl)
onto (Standard known.Validation) = (Validation, refl)
onto (Standard known.Metadata) = (Metadata, refl)
onto (Standard known.Format) = (Format, refl)
onto (Standard known.FormatAnnotation) = (FormatAnnotation, refl)
onto (Standard known.Content) = (Content, refl)
onto (Standard known.FormatAssertion) = (FormatAssertion, refl)
onto (known.Custom uri) = (Custom uri, refl)
