-- A byte order mark at the beginning of a text.
use Rattle.std.proofs.Common.{◌≡◌, ℕ, List, ◌++◌, drop, Bool, true, false, if◌then◌else◌, Option, Some, None, MatchOption, Bor, sym, ap, subst, ◌∙◌}
use lib.Utf8.{encode}
use Rattle.std.specs.Str.{IsCharBoundary}
use Rattle.std.specs.Str.Pattern.{FindsCharPrefix, StripsPrefix}
use Rattle.std.proofs.lemmas.Str.Pattern.{starts_text}
use Rattle.ref_protocol.specs.declared.encoding.Encoding.{Encoding}
use Rattle.ref_lsp.specs.Changes.{mark, begins_with_mark, blanks, unmarked_json}

-- what is left of a text without one
pub cut : (s : List ℕ) (r : Option (Bor (List ℕ))) → MatchOption r (FindsCharPrefix 65279 s None) (λ x. StripsPrefix (FindsCharPrefix 65279) s x.now) → MatchOption r (begins_with_mark s ≡ false) (λ x. (begins_with_mark s ≡ true) × (x.now ≡ drop 3 s))
unfolding encode
cut s None none = sym (starts_text false mark s none)
cut s (Some x) (n, at, is, long) = (sym (starts_text true mark s (n, (at.ends, at.split, at.after), subst (IsCharBoundary s) (sym at.ends) at.after)), is ∙ ap (λ k. drop k s) at.ends)

pub with_mark : (e : Encoding) (s : List ℕ) → begins_with_mark s ≡ true → blanks e ++ drop 3 s ≡ unmarked_json e s
with_mark e s is = sym (ap (λ (b : Bool). (if b then blanks e ++ drop 3 s else s)) is)

pub without_mark : (e : Encoding) (s : List ℕ) → begins_with_mark s ≡ false → s ≡ unmarked_json e s
without_mark e s is = sym (ap (λ (b : Bool). (if b then blanks e ++ drop 3 s else s)) is)
