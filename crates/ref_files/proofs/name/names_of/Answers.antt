use Rattle.std.proofs.Common.{ℕ, List, rules, ◌≡◌, ◌++◌, ◌∷◌, [], map, string_bytes, ap, sym, subst, ◌∙◌, arith, append_assoc}
use Rattle.std.proofs.lemmas.List.{map-append}
use Rattle.std.proofs.lemmas.Str.Pattern.{split_parts}
use Rattle.percent_encoding.specs.Percent.{percent_decode}
use Rattle.ref_files.specs.declared.name.Name.{Name}
use Rattle.ref_files.specs.Meant.{AreNames, decoded_segments}
use Rattle.ref_files.proofs.Names.{segments_turn, segments_last, name_at, one_more}
use Rattle.ref_files.proofs.name.names_of.Goals as goal

abbrev texts : List Name → List (List ℕ)
texts names = map (λ (name : Name). string_bytes name.text) names

more_texts : (names : List Name) (name : Name) (after : List Name) → after ≡ names ++ name ∷ [] → (text : List ℕ) → string_bytes name.text ≡ text → texts after ≡ texts names ++ text ∷ []
more_texts names name after pushed text is =
    ap texts pushed ∙ map-append (λ (n : Name). string_bytes n.text) names (name ∷ []) ∙ ap (λ t. texts names ++ t ∷ []) is

pub returns-in-None-clause-value : goal.returns-in-None-clause-value
returns-in-None-clause-value c =
    let l = c.segments in
    let cut = rw c.in-Some.is at (split_parts 47 l.rest.now c.split_once.result c.split_once.ensures.cases (omega arith)) in
    let turn = segments_turn l.rest.now c.in-Some.segment.now c.in-Some.more.now cut.0 cut.1 in
    let none = rw c.in-None.is at c.in_ok-name.ensures.value in
    λ all. none (name_at (texts l.names.items) _ _ (subst AreNames (l.invariant.0 ∙ ap (λ t. texts l.names.items ++ t) turn) all))

pub segments-preserved : goal.segments-preserved
segments-preserved c =
    let l = c.segments in
    let cut = rw c.in-Some.is at (split_parts 47 l.rest.now c.split_once.result c.split_once.ensures.cases (omega arith)) in
    let turn = segments_turn l.rest.now c.in-Some.segment.now c.in-Some.more.now cut.0 cut.1 in
    let is = rw c.in-Some-2.is at c.in_ok-name.ensures.value in
    let name = rw c.in-Some-2.is at c.in_ok-name.ensures.name in
    let more = more_texts l.names.items c.in-Some-2.name c.push.new.self.items c.in_ok-push-in-Some-2.ensures.items (percent_decode c.in-Some.segment.now) is in (
      l.invariant.0 ∙ ap (λ t. texts l.names.items ++ t) turn ∙ sym (append_assoc (texts l.names.items) (percent_decode c.in-Some.segment.now ∷ []) (decoded_segments c.in-Some.more.now)) ∙ ap (λ t. t ++ decoded_segments c.in-Some.more.now) (sym more),
      subst AreNames (sym more) (one_more (texts l.names.items) _ l.invariant.1 name),
      search rules,
    )

pub returns-in-None-2-clause-value : goal.returns-in-None-2-clause-value
returns-in-None-2-clause-value c =
    let l = c.segments in
    let none = rw c.in_default.is at (split_parts 47 l.rest.now c.split_once.result c.split_once.ensures.cases (omega arith)) in
    let last = segments_last l.rest.now none in
    let other = rw c.in-None-2.is at c.in_ok-name-2.ensures.value in
    λ all. other (name_at (texts l.names.items) _ _ (subst AreNames (l.invariant.0 ∙ ap (λ t. texts l.names.items ++ t) last) all))

pub returns-clause-value : goal.returns-clause-value
returns-clause-value c =
    let l = c.segments in
    let none = rw c.in_default.is at (split_parts 47 l.rest.now c.split_once.result c.split_once.ensures.cases (omega arith)) in
    let last = segments_last l.rest.now none in
    let is = rw c.in-Some-3.is at c.in_ok-name-2.ensures.value in
    more_texts l.names.items c.in-Some-3.name c.push-in-Some-3.new.self.items c.in_ok-push-in-Some-3.ensures.items (percent_decode l.rest.now) is
    ∙ sym (l.invariant.0 ∙ ap (λ t. texts l.names.items ++ t) last)

pub returns-clause-names : goal.returns-clause-names
returns-clause-names c =
    let l = c.segments in
    let none = rw c.in_default.is at (split_parts 47 l.rest.now c.split_once.result c.split_once.ensures.cases (omega arith)) in
    let last = segments_last l.rest.now none in
    let name = rw c.in-Some-3.is at c.in_ok-name-2.ensures.name in
    subst AreNames (sym (l.invariant.0 ∙ ap (λ t. texts l.names.items ++ t) last)) (one_more (texts l.names.items) _ l.invariant.1 name)
