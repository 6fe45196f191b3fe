-- Which known vocabulary's URI a text is, and the refusal of one that is none and no URI.
use Rattle.std.proofs.Common.{◌≡◌, ℕ, Bool, true, false, ◌&&◌, List, ◌++◌, codes, bytes_eq, Option, None, Some, option_map, Ok, refl, sym, subst}
use Rattle.std.specs.List.{find}
use Rattle.std.specs.Option.{option_map_or}
use Rattle.std.proofs.lemmas.Slice.Eq.{bytes_eq-Decides}
use Rattle.ref_uri.specs.Targets.{uri_of}
use Rattle.ref_uri.specs.Errors as uri
use Rattle.ref_uri.specs.declared.error.UriFault.{UriFault}
use Rattle.ref_definitions.specs.Fault.{as_invalid_uri}
use Rattle.ref_definitions.specs.Results.{◌>>=◌}
use Rattle.ref_vocabularies.specs.Vocabularies.{Known, Standard, Custom, all_known, name, is_in_2019, is_uri_of, from_text}
use Rattle.ref_error.specs.Errors.{IsFaultOf, of_uri_fault}
use Rattle.ref_error.proofs.Saying.{refused_then}

-- texts that differ
pub other_bytes : (xs ys : List ℕ) → (xs ≡ ys → ⊥) → bytes_eq xs ys ≡ false
other_bytes xs ys other =
    elim (bytes_eq xs ys) as (λ b. bytes_eq xs ys ≡ b → b ≡ false) [ true ↦ λ e. absurd (other ((bytes_eq-Decides xs ys).0 e)) | false ↦ λ e. refl ] refl

not-and : (s b : Bool) → (s ≡ true → b ≡ false) → (s && b) ≡ false
not-and true b none = none refl
not-and false b none = refl

-- a text that is neither URI of a known vocabulary
pub no_uri : (text : List ℕ) (k : Known)
    → (text ≡ codes "https://json-schema.org/draft/2020-12/vocab/" ++ name k → ⊥)
    → (is_in_2019 k ≡ true → text ≡ codes "https://json-schema.org/draft/2019-09/vocab/" ++ name k → ⊥)
    → is_uri_of text k ≡ false
no_uri text k newer older =
    rw (other_bytes text (codes "https://json-schema.org/draft/2020-12/vocab/" ++ name k) newer)
    (not-and (is_in_2019 k) (bytes_eq text (codes "https://json-schema.org/draft/2019-09/vocab/" ++ name k)) (λ there. other_bytes text (codes "https://json-schema.org/draft/2019-09/vocab/" ++ name k) (older there)))

-- a text that is no URI of any
pub none_known : (text : List ℕ) → ((k : Known) → is_uri_of text k ≡ false) → find (is_uri_of text) all_known ≡ None
none_known text none = λ i. find (λ k. none k i) all_known

none_found : (o : Option Known) → None ≡ option_map Standard o → o ≡ None
none_found None e = refl
none_found (Some k) e = cc

-- a text that is no URI of a known one is refused as its meaning is
pub text_refused : (text : List ℕ) (fault : UriFault) → None ≡ option_map Standard (find (is_uri_of text) all_known) → uri.IsFaultOf (uri_of text) fault → IsFaultOf (as_invalid_uri (from_text text)) (of_uri_fault fault)
text_refused text fault none says =
    subst (λ o. IsFaultOf (as_invalid_uri (option_map_or (λ k. Ok (Standard k)) o (uri_of text >>= λ u. Ok (Custom u)))) (of_uri_fault fault)) (sym (none_found (find (is_uri_of text) all_known) none))
    (refused_then (uri_of text) (λ u. Ok (Custom u)) fault says)
