-- Texts with escapes, a byte at a time.
use Rattle.std.proofs.Common.{◌≡◌, ◌≢◌, ◌≤◌, arith, ℕ, List, [], ◌∷◌, ◌++◌, ◌∙◌, Option, Some, None, option_map, refl, ap, sym, append_assoc, false, Result, Ok, Err, IfErr}
use Rattle.std.proofs.lemmas.Bool.{ne_eqb}
use Rattle.ref_yaml.specs.Flow.{with_feeds}
use Rattle.ref_yaml.specs.Block.{after_header, chomping_of, literal_text, folded_text}
use Rattle.ref_yaml.specs.Scalars.{literal_scalar, folded_scalar}
use Rattle.ref_yaml.specs.Values.{IsNoText, IsTextStop, IsText}
use Rattle.ref_yaml.specs.declared.event.Event.{Event}
use Rattle.ref_yaml.specs.declared.fault.Stop.{Stop}
use Rattle.ref_yaml.specs.declared.fault.Stop.TheVariants.{Memory, At}
use Rattle.ref_yaml.specs.Escapes.{Reading, by_byte, nothing_read, unescaped, unescaped_from}
use Rattle.ref_yaml.specs.Passing.{IsWithoutMark}

pub joined : (a b : List ℕ) (o : Option (List ℕ)) → option_map (λ s. a ++ s) (option_map (λ s. b ++ s) o) ≡ option_map (λ s. (a ++ b) ++ s) o
joined a b None = refl
joined a b (Some t) = ap Some (sym (append_assoc a b t))

pub passed : (r next : Reading) (b : ℕ) (t out new s : List ℕ) (all : Option (List ℕ)) → by_byte r b ≡ Some (s, next) → new ≡ out ++ s
    → option_map (λ x. out ++ x) (unescaped_from r (b ∷ t)) ≡ all → option_map (λ x. new ++ x) (unescaped_from next t) ≡ all
passed r next b t out new s all e o h =
    let k : option_map (λ x. out ++ x) (option_map (λ x. s ++ x) (unescaped_from next t)) ≡ all = rw e at h in
    rw o (sym (joined out s (unescaped_from next t)) ∙ k)

-- a byte outside an escape stays
pub by_outside : (r : Reading) (b : ℕ) → r ≡ nothing_read → b ≢ 92 → by_byte r b ≡ Some (b ∷ [], r)
by_outside r b is apart = rw (is, ne_eqb b 92 apart) refl

-- bytes outside an escape stay before what is after them
pub same : (o : Option (List ℕ)) → option_map (λ s. s) o ≡ o
same None = refl
same (Some t) = refl

pub outside_more : (done rest : List ℕ) (b : ℕ) (all : Option (List ℕ)) → b ≢ 92 → option_map (λ s. done ++ s) (unescaped (b ∷ rest)) ≡ all → option_map (λ s. (done ++ b ∷ []) ++ s) (unescaped rest) ≡ all
outside_more done rest b all apart held =
    let e : unescaped (b ∷ rest) ≡ option_map (λ s. (b ∷ []) ++ s) (unescaped rest) = rw (ne_eqb b 92 apart) refl in
    sym (joined done (b ∷ []) (unescaped rest)) ∙ (rw e at held)

-- a byte that is no control character is in one line
pub in_line : (b : ℕ) → 14 ≤ b → IsWithoutMark 10 b
in_line b above = ((λ e. omega arith), (λ e. omega arith), (λ e. omega arith))

-- no text is so, where none is otherwise
pub no_text_by : {T : Type 0} (r : Result T Stop) (P Q : List ℕ → Type 0) → ((s : List ℕ) → Q s → P s) → IfErr r (IsNoText P) → IfErr r (IsNoText Q)
no_text_by (Ok t) P Q by is = tt
no_text_by (Err Memory) P Q by is = tt
no_text_by (Err (At f o)) P Q by is = λ s u q. is s u (by s q)

pub no_text_of : {T : Type 0} (r : Result T Stop) (text : List ℕ) (e : Event) (P : List ℕ → Type 0) → ((s : List ℕ) → IsText text e s → P s) → IfErr r (IsNoText P) → IfErr r (IsTextStop text e)
no_text_of (Ok t) text e P by is = tt
no_text_of (Err Memory) text e P by is = λ within. tt
no_text_of (Err (At f o)) text e P by is = λ within s u q. is s u (by s q)

pub some_is : (s t : List ℕ) → Some s ≡ Some t → s ≡ t
some_is s t h = cc

pub literal_is : (indent chomping : ℕ) (source header from s : List ℕ) → chomping ≡ chomping_of source → header ≡ after_header source → source ≡ from → s ≡ literal_text chomping indent (with_feeds false header)
    → s ≡ literal_scalar indent from
literal_is indent chomping source header from s a b d is = cc

pub folded_is : (indent chomping : ℕ) (source header from s : List ℕ) → chomping ≡ chomping_of source → header ≡ after_header source → source ≡ from → s ≡ folded_text chomping indent (with_feeds false header)
    → s ≡ folded_scalar indent from
folded_is indent chomping source header from s a b d is = cc
