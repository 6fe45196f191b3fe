-- Where a reference points, by the part of it that is resolved: none where it begins with `#`.
use Rattle.std.proofs.Common.{◌≡◌, ◌==◌, ℕ, Bool, true, false, List, [], ◌∷◌, Some, None, Ok, refl, ap, sym, ◌∙◌, slice_index}
use Rattle.std.specs.Prelude.{if◌then◌else◌}
use Rattle.ref_uri.specs.Bytes.{hash}
use Rattle.ref_uri.specs.Targets.{uri_part, uri_against, target}
use Rattle.ref_definitions.specs.Cached.{pairs_of_reference}

begins : (b : Bool) (part : List ℕ) → None ≡ (if b then None else Some part) → b ≡ true
begins true part is = refl
begins false part is = cc

goes_on : (b : Bool) (part text : List ℕ) → Some text ≡ (if b then None else Some part) → b ≡ false
goes_on true part text is = cc
goes_on false part text is = refl

is_part : (b : Bool) (part text : List ℕ) → Some text ≡ (if b then None else Some part) → text ≡ part
is_part true part text is = cc
is_part false part text is = cc

-- it begins with `#` where there is no such part
pub begins_with : (reference : List ℕ) → None ≡ (if slice_index reference 0 == hash then None else Some (uri_part reference)) → (slice_index reference 0 == hash) ≡ true
begins_with reference is = begins (slice_index reference 0 == hash) (uri_part reference) is

-- and doesn't where there is one
pub begins_without : (reference text : List ℕ) → Some text ≡ (if slice_index reference 0 == hash then None else Some (uri_part reference)) → (slice_index reference 0 == hash) ≡ false
begins_without reference text is = goes_on (slice_index reference 0 == hash) (uri_part reference) text is

pub part_is : (reference text : List ℕ) → Some text ≡ (if slice_index reference 0 == hash then None else Some (uri_part reference)) → text ≡ uri_part reference
part_is reference text is = is_part (slice_index reference 0 == hash) (uri_part reference) text is

pub target_in_base : (base reference : List ℕ) → None ≡ (if slice_index reference 0 == hash then None else Some (uri_part reference)) → target base reference ≡ Ok base
target_in_base base reference is = ap (λ b. if b then Ok base else uri_against base (uri_part reference)) (begins_with reference is)

pub target_of_part : (base reference text : List ℕ) → Some text ≡ (if slice_index reference 0 == hash then None else Some (uri_part reference)) → uri_against base text ≡ target base reference
target_of_part base reference text is =
    ap (uri_against base) (part_is reference text is)
    ∙ sym (ap (λ b. if b then Ok base else uri_against base (uri_part reference)) (begins_without reference text is))

pub no_pair : (base reference : List ℕ) → None ≡ (if slice_index reference 0 == hash then None else Some (uri_part reference)) → pairs_of_reference base reference ≡ []
no_pair base reference is = ap (λ b. if b then [] else (base, uri_part reference) ∷ []) (begins_with reference is)

pub pair_of_part : (base reference text : List ℕ) → Some text ≡ (if slice_index reference 0 == hash then None else Some (uri_part reference)) → (base, text) ∷ [] ≡ pairs_of_reference base reference
pair_of_part base reference text is =
    ap (λ part. (base, part) ∷ []) (part_is reference text is)
    ∙ sym (ap (λ b. if b then [] else (base, uri_part reference) ∷ []) (begins_without reference text is))
