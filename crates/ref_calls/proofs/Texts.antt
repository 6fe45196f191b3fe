-- Texts that are UTF-8, and JSON, as tests.
use Rattle.std.proofs.Common.{◌≡◌, ℕ, List, Bool, true, false, Option, Some, None, is_some, refl, sym}
use Rattle.std.proofs.lemmas.Str.{IsUtf8-from_is_utf8}
use Rattle.std.specs.Prelude.{IsTrue, IsSome, ◌↔◌}
use Rattle.std.specs.Str.{IsUtf8, is_utf8}

no_utf8_by : (bytes : List ℕ) (b : Bool) → ¬ (IsUtf8 bytes) → is_utf8 bytes ≡ b → b ≡ false
no_utf8_by bytes true refused is = absurd (refused (IsUtf8-from_is_utf8 bytes is))
no_utf8_by bytes false refused is = refl

pub no_utf8 : (bytes : List ℕ) → ¬ (IsUtf8 bytes) → is_utf8 bytes ≡ false
no_utf8 bytes refused = no_utf8_by bytes (is_utf8 bytes) refused refl

pub some_as_bool : {X : Type 0} (b : Bool) (o : Option X) → (IsTrue b ↔ IsSome o) → b ≡ is_some o
some_as_bool true (Some x) iff = refl
some_as_bool true None iff = sym (iff.0 refl)
some_as_bool false (Some x) iff = iff.1 refl
some_as_bool false None iff = refl
