-- What a text that means a URI, or means none, makes of an addition.
use Rattle.std.proofs.Common.{◌≡◌, ap, refl, sym, ◌∙◌, subst, ℕ, List, [], ◌∷◌, ◌++◌, map, Option, Result, Ok, Err}
use Rattle.std.proofs.lemmas.List.{map-append}
use Rattle.std.specs.Result.{IsErrAnd, IfErr}
use Rattle.serde_json.specs.Data.{Data}
use Rattle.ref_draft.specs.declared.draft.Draft.{Draft}
use Rattle.ref_uri.specs.Targets.{Refusal, uri_of}
use Rattle.ref_uri.specs.Errors as uri
use Rattle.ref_uri.specs.declared.error.UriFault.{UriFault}
use Rattle.ref_uri.specs.declared.error.UriFault.TheVariants as uri_fault
use Rattle.ref_draft.specs.Schema.{trimmed_text}
use Rattle.ref_definitions.specs.Results.{◌>>=◌}
use Rattle.ref_definitions.specs.Fault.{InvalidUri, as_invalid_uri}
use Rattle.ref_definitions.specs.Pending.{Addition, Pending, with_addition, with_additions, with_pending}
use Rattle.ref_error.specs.declared.error.Error.{Error}
use Rattle.ref_error.specs.Errors.{IsFaultOf, of_uri_fault}
use Rattle.referencing.specs.Builder.{Builder, Adds, addition, holding_pending}

-- the pending document of an addition under a URI
abbrev pub under : Addition → List ℕ → Pending
under a uri = record { uri = uri; tree = a.tree; draft = a.draft }

pub added_under : (ps : List Pending) (a : Addition) (uri : List ℕ) → uri_of (trimmed_text a.text) ≡ Ok uri → with_addition ps a ≡ Ok (with_pending ps (under a uri))
added_under ps a uri is = ap (λ m. (m >>= λ u. Ok (under a u)) >>= λ p. Ok (with_pending ps p)) is

refused_at : (ps : List Pending) (a : Addition) (meaning : Result (List ℕ) Refusal) (fault : UriFault) → uri.IsFaultOf meaning fault
    → IsFaultOf (as_invalid_uri ((meaning >>= λ u. Ok (under a u)) >>= λ p. Ok (with_pending ps p))) (of_uri_fault fault)
refused_at ps a meaning (uri_fault.Invalid refused) (refusal, is, says) = (InvalidUri refusal, ap (λ m. as_invalid_uri ((m >>= λ u. Ok (under a u)) >>= λ p. Ok (with_pending ps p))) is, says)
refused_at ps a meaning (uri_fault.Memory memory) is = tt

pub added_refused : (ps : List Pending) (a : Addition) (text : List ℕ) (fault : UriFault) → text ≡ trimmed_text a.text → uri.IsFaultOf (uri_of text) fault → IsFaultOf (as_invalid_uri (with_addition ps a)) (of_uri_fault fault)
added_refused ps a text fault is refused = refused_at ps a (uri_of (trimmed_text a.text)) fault (subst (λ t. uri.IsFaultOf (uri_of t) fault) is refused)

-- ---- one addition after others

only : {E A : Type 0} (r : Result A E) → (r >>= λ x. Ok x) ≡ r
only (Ok x) = refl
only (Err e) = refl

after_first : (r : Result (List Pending) Refusal) (more : List Addition) (a : Addition) → ((ps : List Pending) → with_additions ps (more ++ a ∷ []) ≡ (with_additions ps more >>= λ next. with_addition next a))
    → (r >>= λ ps. with_additions ps (more ++ a ∷ [])) ≡ ((r >>= λ ps. with_additions ps more) >>= λ next. with_addition next a)
after_first (Ok ps) more a rest = rest ps
after_first (Err refusal) more a rest = refl

extended_last : (additions : List Addition) (a : Addition) (ps : List Pending) → with_additions ps (additions ++ a ∷ []) ≡ (with_additions ps additions >>= λ next. with_addition next a)
extended_last [] a ps = only (with_addition ps a)
extended_last (b ∷ more) a ps = after_first (with_addition ps b) more a (extended_last more a)

last_added : {R X : Type 0} (f : X → Addition) (old now : Builder R) (xs : List X) (x : X) → Adds (with_additions old.pending (map f xs)) old now → with_additions old.pending (map f (xs ++ x ∷ [])) ≡ with_addition now.pending (f x)
last_added f old now xs x (pending, is, same) =
    ap (with_additions old.pending) (map-append f xs (x ∷ [])) ∙ extended_last (map f xs) (f x) old.pending
    ∙ ap (λ r. r >>= λ next. with_addition next (f x)) is ∙ ap (λ ps. with_addition ps (f x)) (sym (ap (λ b. b.pending) same))

pub adds_more : {R X : Type 0} (f : X → Addition) (old now new : Builder R) (xs : List X) (x : X) → Adds (with_additions old.pending (map f xs)) old now → Adds (with_addition now.pending (f x)) now new → Adds (with_additions old.pending (map f (xs ++ x ∷ []))) old new
adds_more f old now new xs x before here =
    (here.0, last_added f old now xs x before ∙ here.1, here.2 ∙ ap (λ b. holding_pending here.0 b) before.2)

pub refused_more : {R X : Type 0} (f : X → Addition) (old now : Builder R) (xs : List X) (x : X) (error : Error) → Adds (with_additions old.pending (map f xs)) old now → IsFaultOf (as_invalid_uri (with_addition now.pending (f x))) error → IsFaultOf (as_invalid_uri (with_additions old.pending (map f (xs ++ x ∷ [])))) error
refused_more f old now xs x error before refused =
    subst (λ r. IsFaultOf (as_invalid_uri r) error) (sym (last_added f old now xs x before)) refused

pub passed_on : {X E : Type 0} (r : Result X E) (e : E) (P : E → Type 0) → IsErrAnd r (λ y. y ≡ e) → P e → IfErr r P
passed_on (Ok x) e P is holds = absurd is
passed_on (Err y) e P is holds = subst P (sym is) holds

pub same_addition : {text other : List ℕ} {tree value : Data} {draft given : Option Draft} → text ≡ other → tree ≡ value → draft ≡ given → addition text tree draft ≡ addition other value given
same_addition one two three = rw (one, two, three) refl
