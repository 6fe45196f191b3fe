-- A line that is read piece by piece.
use Rattle.std.proofs.Common.{◌≡◌, ◌≤◌, ◌+◌, ◌-◌, ◌^◌, ℕ, Bool, true, false, List, [], ◌∷◌, ◌++◌, inl, Option, refl, sym, ap, ◌∙◌, subst, append_assoc, append-nil, length, length-append, arith}
use Rattle.std.proofs.lemmas.Bool.{false≢true}
use Rattle.std.proofs.KnownBytes.{Consumes-nil, Consumes-trans, Consumes-kept}
use Rattle.std.specs.Io.KnownBytes.{Consumes, Keeps as Stays}
use Rattle.ref_streams.specs.declared.line.Line.{Line}
use Rattle.ref_streams.specs.declared.line.Part.{Part}
use Rattle.ref_streams.specs.inner.Held.{IsFree, Keeps, Passes, Cuts, IsNext, Got, GotNext, IsUnfinished, GaveForReads}
use Rattle.ref_streams.specs.Serving.{GaveAtLeast}
use Rattle.ref_streams.proofs.Cutting.{free_append, not_ended}

-- what passing bytes gives a line
abbrev pub Passed : List ℕ → List ℕ → Part → Part → Bool → Type 0
Passed held held' part part' met = (line : List ℕ) → Keeps part line → (passed : List ℕ) × Passes held passed met held' × Keeps part' (line ++ passed)

pub got_none : (left : Option (List ℕ)) (held : List ℕ) (part : Part) (ended : Bool) → Keeps part [] → Got left left held held part ended ended
got_none left held part ended keeps = ([], [], Consumes-nil left, append-nil held, tt, keeps, λ is. (refl, is))

pub got_line : (left left' : Option (List ℕ)) (before held after : List ℕ) (part part' : Part) (line : Line) (ended mid ended' : Bool)
    → Got left left' before held part ended mid → Passed held after part part' true → ended' ≡ mid
    → ((l b a : List ℕ) (e : Bool) → Keeps part' l → Cuts b l a e → IsNext line b a e)
    → GotNext left left' before after line ended ended'
got_line left left' before held after part part' line ended mid ended' (bytes, l, consumes, is, free, keeps, stays) pass same gives =
    let (passed, (front, cut), kept) = pass l keeps in
    let whole : before ++ bytes ≡ (l ++ passed) ++ 10 ∷ after = is ∙ ap (λ ys. l ++ ys) cut ∙ sym (append_assoc l passed (10 ∷ after)) in
    (bytes, consumes, gives (l ++ passed) (before ++ bytes) after ended' kept (free_append l passed free front, inl whole), λ e. ((stays e).0, same ∙ (stays e).1))

pub got_last : (left left' : Option (List ℕ)) (before held after : List ℕ) (part part' : Part) (line : Line) (ended mid ended' : Bool)
    → Got left left' before held part ended mid → Passed held after part part' false → ended' ≡ mid → ended' ≡ true
    → ((l b a : List ℕ) → Keeps part' l → IsFree l → b ≡ l → a ≡ [] → IsNext line b a true)
    → GotNext left left' before after line ended ended'
got_last left left' before held after part part' line ended mid ended' (bytes, l, consumes, is, free, keeps, stays) pass same end gives =
    let (passed, (front, whole, none), kept) = pass l keeps in
    let all : before ++ bytes ≡ l ++ passed = is ∙ ap (λ ys. l ++ ys) whole in
    let next : IsNext line (before ++ bytes) after true = gives (l ++ passed) (before ++ bytes) after kept (free_append l passed free front) all none in
    (bytes, consumes, subst (IsNext line (before ++ bytes) after) (sym end) next, λ e. ((stays e).0, same ∙ (stays e).1))

pub got_more : (left left' left'' : Option (List ℕ)) (before held after more : List ℕ) (part part' : Part) (ended mid ended' : Bool)
    → Got left left' before held part ended mid → Passed held after part part' false → mid ≡ false → Consumes left' left'' more
    → Got left left'' before more part' ended ended'
got_more left left' left'' before held after more part part' ended mid ended' (bytes, l, consumes, is, free, keeps, stays) pass begun consumed =
    let (passed, (front, whole, none), kept) = pass l keeps in
    let all : before ++ (bytes ++ more) ≡ (l ++ passed) ++ more =
    sym (append_assoc before bytes more) ∙ ap (λ ys. ys ++ more) (is ∙ ap (λ ys. l ++ ys) whole) in
    (bytes ++ more, l ++ passed, Consumes-trans left left' left'' bytes more consumes consumed, all, free_append l passed free front, kept, λ e. absurd (false≢true (sym begun ∙ (stays e).1)))

-- where a read fails, what was read of the line has no line feed
pub got_unfinished : (left left' left'' : Option (List ℕ)) (before held after : List ℕ) (part part' : Part) (ended mid : Bool)
    → Got left left' before held part ended mid → Passed held after part part' false → mid ≡ false → Stays left' left''
    → IsUnfinished left left'' before ended
got_unfinished left left' left'' before held after part part' ended mid (bytes, l, consumes, is, free, keeps, stays) pass begun same =
    let (passed, (front, whole, none), kept) = pass l keeps in
    let all : before ++ bytes ≡ l ++ passed = is ∙ ap (λ ys. l ++ ys) whole in (
      bytes,
      Consumes-kept left left' left'' bytes consumes same,
      subst IsFree (sym all) (free_append l passed free front),
      not_ended ended (λ e. false≢true (sym begun ∙ (stays e).1)),
    )

-- ---- how many reads there were

pub reads_none : (left : Option (List ℕ)) (ended : Bool) → GaveForReads 0 left left ended
reads_none left ended = ([], Consumes-nil left, omega arith, λ _. omega arith)

pub reads_more : (left left' left'' : Option (List ℕ)) (count : ℕ) (more : List ℕ) (mid ended' : Bool)
    → GaveForReads count left left' mid → mid ≡ false → Consumes left' left'' more → (ended' ≡ false → 1 ≤ length more)
    → GaveForReads (count + 1) left left'' ended'
reads_more left left' left'' count more mid ended' (bytes, consumes, most, all) begun consumed some = (
  bytes ++ more,
  Consumes-trans left left' left'' bytes more consumes consumed,
  omega (arith, all begun, length-append bytes more),
  λ e. omega (arith, all begun, some e, length-append bytes more),
)

pub reads_all : (left left' : Option (List ℕ)) (count : ℕ) (ended : Bool) → GaveForReads count left left' ended → 2 ^ 64 - 1 ≤ count → GaveAtLeast (2 ^ 64 - 2) left left'
reads_all left left' count ended (bytes, consumes, most, all) many = (bytes, consumes, omega (arith, most, many))
