-- The keys of a fragment that is a pointer.
use Rattle.std.proofs.Common.{◌≡◌, ◌≢◌, ℕ, Bool, true, false, ◌&&◌, ◌==◌, eqb, eqb-true, cond, List, [], ◌∷◌, ◌++◌, All, Some, None, slice_get, bytes_eq, refl, ap, sym, ◌∙◌}
use Rattle.std.specs.Str.{IsUtf8, is_utf8}
use Rattle.std.proofs.lemmas.Bool.{ne_eqb}
use Rattle.std.proofs.lemmas.List.Elements.{All-from_get_or}
use Rattle.std.proofs.lemmas.List.Splits.{slice_split_none, slice_split_at}
use Rattle.std.proofs.lemmas.Str.{IsUtf8-from_is_utf8, is_utf8-from_IsUtf8}
use Rattle.percent_encoding.specs.Percent.{percent_decode}
use Rattle.ref_parts.specs.Pointer.{tokens}
use Rattle.ref_parts.proofs.EvaluateLaws.{NoSlash}
use Rattle.std.specs.Option.{option_map_or}
use Rattle.ref_bundle.specs.Bundle.{pointer_in, key_at, second_key}

plain : (bs : List ℕ) → NoSlash bs → All (λ b. eqb b 47 ≡ false) bs
plain bs none = All-from_get_or (λ b. eqb b 47 ≡ false) bs 0 (λ i within. ne_eqb _ 47 (none i within))

pub first_cut : (text token more : List ℕ) → text ≡ token ++ (47 ∷ more) → NoSlash token → Some token ≡ slice_get (tokens text) 0
first_cut text token more cut none =
    sym (ap (λ t. slice_get (tokens t) 0) cut ∙ ap (λ (l : List (List ℕ)). slice_get l 0) (slice_split_at (λ b. eqb b 47) token 47 more (plain token none) refl))

pub first_whole : (text : List ℕ) → NoSlash text → Some text ≡ slice_get (tokens text) 0
first_whole text none = sym (ap (λ (l : List (List ℕ)). slice_get l 0) (slice_split_none (λ b. eqb b 47) text (plain text none)))

pub second_cut : (text token more : List ℕ) (second : List ℕ) → text ≡ token ++ (47 ∷ more) → NoSlash token → Some second ≡ slice_get (tokens more) 0 → Some second ≡ slice_get (tokens text) 1
second_cut text token more second cut none is =
    is ∙ sym (ap (λ t. slice_get (tokens t) 1) cut ∙ ap (λ (l : List (List ℕ)). slice_get l 1) (slice_split_at (λ b. eqb b 47) token 47 more (plain token none) refl))

pub second_whole : (text : List ℕ) → NoSlash text → None ≡ slice_get (tokens text) 1
second_whole text none = sym (ap (λ (l : List (List ℕ)). slice_get l 1) (slice_split_none (λ b. eqb b 47) text (plain text none)))

pub is_pointer : (text decoded : List ℕ) → decoded ≡ percent_decode text → IsUtf8 (percent_decode text) → Some decoded ≡ pointer_in (47 ∷ text)
is_pointer text decoded is utf8 =
    ap (λ d. Some d) is ∙ sym (ap (λ b. cond b (Some (percent_decode text)) None) (is_utf8-from_IsUtf8 (percent_decode text) utf8))

pub not_decoded : (text : List ℕ) → (IsUtf8 (percent_decode text) → ⊥) → None ≡ pointer_in (47 ∷ text)
not_decoded text none = by_test (is_utf8 (percent_decode text)) refl
  where
    by_test : (b : Bool) → is_utf8 (percent_decode text) ≡ b → None ≡ cond b (Some (percent_decode text)) None
    by_test true is = absurd (none (IsUtf8-from_is_utf8 (percent_decode text) is))
    by_test false is = refl

pub no_pointer : (fragment : List ℕ) → ((rest : List ℕ) → fragment ≢ 47 ∷ rest) → None ≡ pointer_in fragment
no_pointer [] other = refl
no_pointer (c ∷ text) other = by_test (c == 47) refl
  where
    by_test : (b : Bool) → (c == 47) ≡ b → None ≡ cond (b && is_utf8 (percent_decode text)) (Some (percent_decode text)) None
    by_test true is = absurd (other text (ap (λ d. d ∷ text) (eqb-true c 47 is)))
    by_test false is = refl

-- ---- the second key

second_by : (first text key : List ℕ) (b : Bool) → Some key ≡ key_at 0 text → bytes_eq key first ≡ b → cond b (key_at 1 text) None ≡ second_key first text
second_by first text key b is same =
    ap (λ x. cond x (key_at 1 text) None) (sym same) ∙ ap (λ o. cond (option_map_or (λ k. bytes_eq k first) o false) (key_at 1 text) None) is

pub no_second : (first text key : List ℕ) → Some key ≡ key_at 0 text → bytes_eq key first ≡ false → None ≡ second_key first text
no_second first text key is same = second_by first text key false is same

pub second_there : (first text key : List ℕ) → Some key ≡ key_at 0 text → bytes_eq key first ≡ true → key_at 1 text ≡ second_key first text
second_there first text key is same = second_by first text key true is same
