-- What holds of an answer, where there is one.
use Rattle.std.proofs.Common.{◌≡◌, refl, Bool, true, false, cond, Option, Some, None, IfSome, option_map, option_and_then, unwrap_or, Result, Ok, Err, IfOk, ok_or}
use Rattle.std.specs.Option.{option_or}
use Rattle.ref_definitions.specs.Results.{◌>>=◌}

-- ---- results

-- it holds where it does of each answer that there may be
pub if_ok_by : {A E : Type 0} (P : A → Type 0) (r : Result A E) → ((x : A) → r ≡ Ok x → P x) → IfOk r P
if_ok_by P (Ok x) each = each x refl
if_ok_by P (Err e) each = tt

pub if_bound : {A B E : Type 0} (P : A → Type 0) (Q : B → Type 0) (r : Result A E) (f : A → Result B E) → IfOk r P → ((x : A) → P x → IfOk (f x) Q) → IfOk (r >>= f) Q
if_bound P Q (Ok x) f p next = next x p
if_bound P Q (Err e) f p next = tt

pub if_any : {A B E : Type 0} (Q : B → Type 0) (r : Result A E) (f : A → Result B E) → ((x : A) → IfOk (f x) Q) → IfOk (r >>= f) Q
if_any Q (Ok x) f next = next x
if_any Q (Err e) f next = tt

pub if_ok_or : {A E : Type 0} (P : A → Type 0) (o : Option A) (e : E) → IfSome o P → IfOk (ok_or o e) P
if_ok_or P None e p = tt
if_ok_or P (Some x) e p = p

pub if_chosen : {A E : Type 0} (P : A → Type 0) (b : Bool) (r s : Result A E) → IfOk r P → IfOk s P → IfOk (cond b r s) P
if_chosen P true r s p q = p
if_chosen P false r s p q = q

-- ---- options

pub some_mapped : {A B : Type 0} (P : A → Type 0) (Q : B → Type 0) (o : Option A) (f : A → B) → IfSome o P → ((x : A) → P x → Q (f x)) → IfSome (option_map f o) Q
some_mapped P Q None f p next = tt
some_mapped P Q (Some x) f p next = next x p

pub some_bound : {A B : Type 0} (P : A → Type 0) (Q : B → Type 0) (o : Option A) (f : A → Option B) → IfSome o P → ((x : A) → P x → IfSome (f x) Q) → IfSome (option_and_then f o) Q
some_bound P Q None f p next = tt
some_bound P Q (Some x) f p next = next x p

pub some_any : {A B : Type 0} (Q : B → Type 0) (o : Option A) (f : A → Option B) → ((x : A) → IfSome (f x) Q) → IfSome (option_and_then f o) Q
some_any Q None f next = tt
some_any Q (Some x) f next = next x

pub some_either : {A : Type 0} (P : A → Type 0) (o p : Option A) → IfSome o P → IfSome p P → IfSome (option_or o p) P
some_either P None p h k = k
some_either P (Some x) p h k = h

pub unwrapped : {A : Type 0} (P : A → Type 0) (o : Option A) (x : A) → IfSome o P → P x → P (unwrap_or o x)
unwrapped P None x h k = k
unwrapped P (Some y) x h k = h
