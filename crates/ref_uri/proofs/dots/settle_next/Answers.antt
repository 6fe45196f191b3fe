use Rattle.std.proofs.Common.{◌≡◌, ℕ, List, ◌∷◌, ◌++◌, ◌+◌, length, drop, take, string_bytes, append_assoc, refl, ap, sym, ◌∙◌}
use Rattle.std.proofs.lemmas.List.{take_at}
use Rattle.ref_uri.specs.inner.Removal.{segment_of}
use Rattle.ref_uri.specs.declared.dots.Segment.{Segment}
use Rattle.ref_uri.specs.declared.dots.Segment.TheVariants.{Name, Dot, DotDot}
use Rattle.ref_uri.proofs.NormalLemmas.{drop_past}
use Rattle.ref_uri.proofs.dots.settle_next.Goals as goal

-- what is before the slash
in_front : (buffer front segment : List ℕ) (end : ℕ) → buffer ≡ front ++ 47 ∷ segment → length front ≡ end → take end buffer ≡ front
in_front buffer front segment end e n = ap (λ t. take end t) e ∙ take_at front (47 ∷ segment) end n

-- what the segment after it asks
asked : (asks : Segment) (last buffer front segment : List ℕ) (end : ℕ) → asks ≡ segment_of last → last ≡ drop (end + 1) buffer → buffer ≡ front ++ 47 ∷ segment → length front ≡ end → segment_of segment ≡ asks
asked asks last buffer front segment end is behind e n =
    let there : drop (end + 1) buffer ≡ segment = ap (λ k. drop (k + 1) buffer) (sym n) ∙ ap (λ t. drop (length front + 1) t) e ∙ drop_past front 47 segment in
    sym (is ∙ ap segment_of (behind ∙ there))

pub returns-in-Name-clause-text : goal.returns-in-Name-clause-text
returns-in-Name-clause-text c = λ before path segment e s n.
    let asks = asked Name c.range_from.result.now c.deref.result.now (before ++ path) segment c.args.end (sym c.in-Name.is ∙ c.segment_of.ensures) c.range_from.ensures.value (c.deref.ensures ∙ e) n in
    rw asks (e ∙ append_assoc before path (47 ∷ segment))

pub returns-in-Name-clause-progress : goal.returns-in-Name-clause-progress
returns-in-Name-clause-progress c = λ path segment e n.
    rw (asked Name c.range_from.result.now c.deref.result.now path segment c.args.end (sym c.in-Name.is ∙ c.segment_of.ensures) c.range_from.ensures.value (c.deref.ensures ∙ e) n) refl

pub returns-in-Dot-clause-text : goal.returns-in-Dot-clause-text
returns-in-Dot-clause-text c = λ before path segment e s n.
    let asks = asked Dot c.range_from.result.now c.deref.result.now (before ++ path) segment c.args.end (sym c.in-Dot.is ∙ c.segment_of.ensures) c.range_from.ensures.value (c.deref.ensures ∙ e) n in
    rw asks (c.truncate.ensures.bytes ∙ in_front (string_bytes c.args.buffer.now) (before ++ path) segment c.args.end e n)

pub returns-in-Dot-clause-progress : goal.returns-in-Dot-clause-progress
returns-in-Dot-clause-progress c = λ path segment e n.
    rw (asked Dot c.range_from.result.now c.deref.result.now path segment c.args.end (sym c.in-Dot.is ∙ c.segment_of.ensures) c.range_from.ensures.value (c.deref.ensures ∙ e) n) refl

pub returns-in-DotDot-clause-text : goal.returns-in-DotDot-clause-text
returns-in-DotDot-clause-text c = λ before path segment e s n.
    let asks = asked DotDot c.range_from.result.now c.deref.result.now (before ++ path) segment c.args.end (sym c.in-DotDot.is ∙ c.segment_of.ensures) c.range_from.ensures.value (c.deref.ensures ∙ e) n in
    rw asks (c.take_last.ensures.text before path (c.truncate-in-DotDot.ensures.bytes ∙ in_front (string_bytes c.args.buffer.now) (before ++ path) segment c.args.end e n) s)

pub returns-in-DotDot-clause-progress : goal.returns-in-DotDot-clause-progress
returns-in-DotDot-clause-progress c = λ path segment e n.
    rw (asked DotDot c.range_from.result.now c.deref.result.now path segment c.args.end (sym c.in-DotDot.is ∙ c.segment_of.ensures) c.range_from.ensures.value (c.deref.ensures ∙ e) n) refl
