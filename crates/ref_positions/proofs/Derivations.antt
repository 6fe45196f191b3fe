-- What is found in the events of a row.
use Rattle.std.proofs.Common.{◌≡◌, ℕ, zero, suc, List, [], ◌∷◌, Option, Some, None, get_or, length, replicate, refl, ap, sym, subst, ◌∙◌, arith, codes}
use Rattle.json.specs.Token as json
use Rattle.ref_yaml.specs.Rows as yaml
use Rattle.ref_yaml.proofs.Derivations.{plain_key}
use Rattle.ref_yaml.specs.declared.event.Kind.TheVariants.{BeginObject, EndObject, Plain, SingleQuoted}
use Rattle.ref_positions.specs.Paths.{member}
use Rattle.ref_positions.specs.Parts.{Token, Next, next, value, name, key, object, scalar, close, parts}
use Rattle.ref_positions.specs.Walks.{not_found, counted, IsCounted}
use Rattle.ref_positions.specs.Events.{IsTokenOf, AreTokens, AreFoundIn}
use Rattle.ref_positions.specs.Json.{AreFoundInJson, tokens_at, tokens_in}
use Rattle.ref_positions.specs.Rows.{asked, named_found, named_json, named_tokens}
use Rattle.ref_positions.specs.declared.walk.Found.{Found}

key_token : IsTokenOf yaml.named asked (name []) (yaml.key Plain 1 2) Plain (key (codes "a") 1)
key_token = (codes "a", refl, λ is. plain_key)

are_tokens : AreTokens yaml.named asked (value []) yaml.named_events named_tokens
are_tokens = (refl, (key_token, (refl, (refl, tt))))

counted_at : (n : ℕ) → get_or named_found n not_found ≡ counted (parts (value []) 0 named_tokens) (get_or asked n None)
counted_at zero = refl
counted_at (suc zero) = refl
counted_at (suc (suc n)) = refl

are_counted : IsCounted asked named_found (parts (value []) 0 named_tokens)
are_counted = (refl, counted_at)

pub are_found : AreFoundIn yaml.named asked yaml.named_events named_found
are_found = (named_tokens, are_tokens, are_counted)

none_some : (at : ℕ × ℕ) → None ≡ Some at → ⊥
none_some at h = cc

-- the whole value is found, whatever the key's text is
found_whole : (k : List ℕ) → IsCounted asked (replicate 2 not_found) (parts (value []) 0 (object 0 ∷ key k 1 ∷ scalar 4 ∷ close ∷ [])) → ⊥
found_whole k is = none_some (0, 0) (ap (λ (f : Found). f.value) (is.1 0))

pub not_counted : IsCounted asked (replicate 2 not_found) (parts (value []) 0 named_tokens) → ⊥
not_counted is = found_whole (codes "a") is

nothing_after : (k : List ℕ) (ts : List Token) → AreTokens yaml.named asked (name []) (yaml.event EndObject 7 8 ∷ []) ts
    → IsCounted asked (replicate 2 not_found) (parts (value []) 0 (object 0 ∷ key k 1 ∷ scalar 4 ∷ ts)) → ⊥
nothing_after k [] are is = are
nothing_after k (t ∷ x ∷ ts) are is = are.1
nothing_after k (t ∷ []) are is =
    found_whole k (subst (λ (x : Token). IsCounted asked (replicate 2 not_found) (parts (value []) 0 (object 0 ∷ key k 1 ∷ scalar 4 ∷ x ∷ []))) are.0 is)

nothing_below : (k : List ℕ) (ts : List Token) → AreTokens yaml.named asked (value (member k ∷ [])) (yaml.event SingleQuoted 4 7 ∷ yaml.event EndObject 7 8 ∷ []) ts
    → IsCounted asked (replicate 2 not_found) (parts (value []) 0 (object 0 ∷ key k 1 ∷ ts)) → ⊥
nothing_below k [] are is = are
nothing_below k (t ∷ ts) are is =
    nothing_after k ts (subst (λ (x : Token). AreTokens yaml.named asked (next (value (member k ∷ [])) x) (yaml.event EndObject 7 8 ∷ []) ts) are.0 are.1)
    (subst (λ (x : Token). IsCounted asked (replicate 2 not_found) (parts (value []) 0 (object 0 ∷ key k 1 ∷ x ∷ ts))) are.0 is)

nothing_within : (ts : List Token) → AreTokens yaml.named asked (name []) (yaml.key Plain 1 2 ∷ yaml.event SingleQuoted 4 7 ∷ yaml.event EndObject 7 8 ∷ []) ts
    → IsCounted asked (replicate 2 not_found) (parts (value []) 0 (object 0 ∷ ts)) → ⊥
nothing_within [] are is = are
nothing_within (t ∷ ts) are is =
    nothing_below are.0.0 ts (subst (λ (x : Token). AreTokens yaml.named asked (next (name []) x) (yaml.event SingleQuoted 4 7 ∷ yaml.event EndObject 7 8 ∷ []) ts) are.0.1 are.1)
    (subst (λ (x : Token). IsCounted asked (replicate 2 not_found) (parts (value []) 0 (object 0 ∷ x ∷ ts))) are.0.1 is)

not_found_in : (ts : List Token) → AreTokens yaml.named asked (value []) yaml.named_events ts → IsCounted asked (replicate 2 not_found) (parts (value []) 0 ts) → ⊥
not_found_in [] are is = are
not_found_in (t ∷ ts) are is =
    nothing_within ts (subst (λ (x : Token). AreTokens yaml.named asked (next (value []) x) (yaml.key Plain 1 2 ∷ yaml.event SingleQuoted 4 7 ∷ yaml.event EndObject 7 8 ∷ []) ts) are.0 are.1)
    (subst (λ (x : Token). IsCounted asked (replicate 2 not_found) (parts (value []) 0 (x ∷ ts))) are.0 is)

pub nothing_found : AreFoundIn yaml.named asked yaml.named_events (replicate 2 not_found) → ⊥
nothing_found is = not_found_in is.0 is.1 is.2

-- tokens of JSON, wherever they are
abbrev offsets : List ℕ
offsets = 0 ∷ 1 ∷ 4 ∷ 7 ∷ []

pub are_found_in_json : (text : List ℕ) → tokens_in text ≡ named_json → AreFoundInJson text asked named_found
are_found_in_json text is =
    (offsets, ap length (sym is), subst (λ (ts : List json.Token). IsCounted asked named_found (parts (value []) 0 (tokens_at ts offsets))) (sym is) are_counted)

not_counted_at : (starts : List ℕ) → 4 ≡ length starts → IsCounted asked (replicate 2 not_found) (parts (value []) 0 (tokens_at named_json starts)) → ⊥
not_counted_at [] long is = absurd (omega (arith, long))
not_counted_at (a ∷ []) long is = absurd (omega (arith, long))
not_counted_at (a ∷ b ∷ []) long is = absurd (omega (arith, long))
not_counted_at (a ∷ b ∷ c ∷ []) long is = absurd (omega (arith, long))
not_counted_at (a ∷ b ∷ c ∷ d ∷ more) long is = none_some (0, a) (ap (λ (f : Found). f.value) (is.1 0))

pub nothing_found_in_json : (text : List ℕ) → tokens_in text ≡ named_json → AreFoundInJson text asked (replicate 2 not_found) → ⊥
nothing_found_in_json text is found =
    not_counted_at found.0 (ap length (sym is) ∙ sym found.1) (subst (λ (ts : List json.Token). IsCounted asked (replicate 2 not_found) (parts (value []) 0 (tokens_at ts found.0))) is found.2)
