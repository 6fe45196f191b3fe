-- What a text means, case by case.
use Rattle.std.proofs.Common.{◌≡◌, ℕ, true, false, ◌&&◌, List, Some, None, Result, Ok, Err, is_some, get_or, eqb, refl, ◌∙◌}
use Rattle.std.specs.List.{ends_with}
use Rattle.std.specs.Result.{IsErrAnd}
use Rattle.ref_uri.specs.Components.{scheme}
use Rattle.ref_uri.specs.Errors.{Gives, IsFaultOf}
use Rattle.ref_uri.specs.inner.Faults.{IfInvalid}
use Rattle.ref_uri.specs.inner.Lengths.{the_lengths, IsParsed}
use Rattle.ref_uri.specs.Normal.{normal_form}
use Rattle.ref_uri.specs.Reference.{is_uri_reference, with_fragment}
use Rattle.ref_uri.specs.Resolution.{target_text}
use Rattle.ref_uri.specs.Targets.{Refusal, parse_refusal, resolve_refusal, default_base, uri_of, uri_against}
use Rattle.ref_uri.specs.declared.error.UriFault.{UriFault}
use Rattle.ref_uri.specs.declared.error.UriFault.TheVariants as uri_fault
use Rattle.ref_uri.proofs.AsciiLemmas.{IsAscii-from_all_ascii}
use Rattle.ref_uri.proofs.OnLiterals.{ref_uri_on_literals}

pub parsed_with_scheme : (text : List ℕ) → is_uri_reference text ≡ true → is_some (scheme text) ≡ true → uri_of text ≡ Ok (normal_form text)
unfolding uri_of
parsed_with_scheme text h s = rw (h, s) refl

pub parsed_without_scheme : (text : List ℕ) → is_uri_reference text ≡ true → is_some (scheme text) ≡ false → uri_of text ≡ Ok (target_text default_base (normal_form text))
unfolding uri_of
parsed_without_scheme text h s = rw (h, s) refl

pub parsed_refused : (text : List ℕ) → is_uri_reference text ≡ false → uri_of text ≡ Err (parse_refusal text)
unfolding uri_of
parsed_refused text h = rw h refl

pub against_without_scheme : (base text : List ℕ) → is_some (scheme base) ≡ false → uri_against base text ≡ Err (resolve_refusal text base)
unfolding uri_against
against_without_scheme base text s = rw s refl

pub against_same : (base text : List ℕ) → is_some (scheme base) ≡ true → (eqb (get_or text 0 0) 35 && ends_with eqb base text) ≡ true → uri_against base text ≡ Ok base
unfolding uri_against
against_same base text s e = rw (s, e) refl

pub against_target : (base text : List ℕ) → is_some (scheme base) ≡ true → (eqb (get_or text 0 0) 35 && ends_with eqb base text) ≡ false → is_uri_reference text ≡ true → uri_against base text ≡ Ok (normal_form (target_text (with_fragment base None) text))
unfolding uri_against
against_target base text s e h = rw (s, e, h) refl

pub against_refused : (base text : List ℕ) → is_some (scheme base) ≡ true → (eqb (get_or text 0 0) 35 && ends_with eqb base text) ≡ false → is_uri_reference text ≡ false → uri_against base text ≡ Err (parse_refusal text)
unfolding uri_against
against_refused base text s e h = rw (s, e, h) refl

-- a fault for one meaning is one for the same meaning under a condition
pub fault_moved : (meaning : Result (List ℕ) Refusal) (refusal : Refusal) (fault : UriFault) (P : Type 0) → IsFaultOf (Err refusal) fault → IfInvalid fault P → (P → meaning ≡ Err refusal) → IsFaultOf meaning fault
fault_moved meaning refusal (uri_fault.Invalid error) P is p moved = (is.0, moved p ∙ is.1, is.2)
fault_moved meaning refusal (uri_fault.Memory error) P is p moved = tt

-- a call that passes a fault on gives it
pub fault_passed : (r : Result (List ℕ) UriFault) (fault : UriFault) (meaning : Result (List ℕ) Refusal) → IsErrAnd r (λ e. e ≡ fault) → IsFaultOf meaning fault → Gives meaning r
fault_passed (Ok uri) fault meaning passed is = absurd passed
fault_passed (Err e) fault meaning passed is = rw passed is

pub default_is_reference : is_uri_reference default_base ≡ true
unfolding ref_uri_on_literals
default_is_reference = refl

-- the lengths of the default base's components
pub default_is_parsed : IsParsed default_base (the_lengths (Some 11) (Some 0) 1 None)
unfolding ref_uri_on_literals
default_is_parsed = record { ascii = IsAscii-from_all_ascii default_base refl; reference = refl; lengths_are = refl }

pub default_has_scheme : is_some (scheme default_base) ≡ true
unfolding ref_uri_on_literals
default_has_scheme = refl
