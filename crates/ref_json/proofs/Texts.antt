-- Which bytes are JSON, and why others aren't.
use Rattle.std.proofs.Common.{◌≡◌, ◌≤◌, ℕ, Bool, true, false, List, Some, None, cond, ap, ◌∙◌, refl, IsUtf8, length}
use Rattle.std.proofs.lemmas.Str.{IsUtf8-from_is_utf8, is_utf8-from_IsUtf8}
use Rattle.std.specs.Str.{is_utf8}
use Rattle.serde_json.specs.Data.{Data}
use Rattle.serde_json.specs.Read.{read}
use Rattle.ref_json.specs.declared.stop.Stop.{Stop}
use Rattle.ref_json.specs.declared.stop.Stop.TheVariants.{Memory, Because}
use Rattle.ref_json.specs.Text.{tree_of, IsNotJson}

pub text_read : (bytes : List ℕ) (d : Data) → IsUtf8 bytes → read bytes ≡ Some d → tree_of bytes ≡ Some d
text_read bytes d utf8 is = ap (λ b. cond b (read bytes) None) (is_utf8-from_IsUtf8 bytes utf8) ∙ is

none_by : (bytes : List ℕ) (b : Bool) → is_utf8 bytes ≡ b → (IsUtf8 bytes → read bytes ≡ None) → cond b (read bytes) None ≡ None
none_by bytes true is unread = unread (IsUtf8-from_is_utf8 bytes is)
none_by bytes false is unread = refl

pub none_read : (bytes : List ℕ) → (IsUtf8 bytes → read bytes ≡ None) → tree_of bytes ≡ None
none_read bytes unread = none_by bytes (is_utf8 bytes) refl unread

pub not_json_by : (bytes : List ℕ) (stop : Stop ℕ) (Out : Type 0) → (Out → stop ≡ Memory) → ((offset : ℕ) → stop ≡ Because offset → offset ≤ length bytes) → (¬ Out → tree_of bytes ≡ None) → IsNotJson bytes stop
not_json_by bytes Memory Out memory place unread = tt
not_json_by bytes (Because offset) Out memory place unread =
    (unread (λ out. let e : Because offset ≡ Memory = memory out in let f : ⊥ = cc in f), place offset refl)
