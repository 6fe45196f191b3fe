-- Lemmas on the parts of an authority.
use Rattle.std.proofs.Common.{◌≡◌, ℕ, ◌+◌, ◌<◌, true, ◌&&◌, List, length, take, drop, eqb, refl, ◌∙◌, lt-ltb}
use Rattle.std.specs.List.{list_any, position_or_len}
use Rattle.ref_uri.specs.Characters.{is_encoded, is_userinfo_character}
use Rattle.ref_uri.specs.Authority.{is_authority, is_host_and_port}
use Rattle.ref_uri.proofs.EncodedLemmas.{any_is_found}

-- an authority with an `@`
pub is_authority-userinfo : (text : List ℕ) → position_or_len (λ x. eqb x 64) text < length text → is_authority text ≡ (is_encoded is_userinfo_character (take (position_or_len (λ x. eqb x 64) text) text) && is_host_and_port (drop (position_or_len (λ x. eqb x 64) text + 1) text))
is_authority-userinfo text lt =
    let found : list_any (λ x. eqb x 64) text ≡ true = any_is_found (λ x. eqb x 64) text ∙ lt-ltb _ _ lt in
    rw found refl
