use Rattle.std.proofs.Common.{◌≡◌, ◌∷◌, ◌+◌, ◌++◌, ◌≤◌, [], ap, sym, subst, ◌∙◌, length, length-append, map, option_map, append-nil, Some, None, arith, rules}
use Rattle.std.specs.Prelude.{IfNone}
use Rattle.std.specs.List.{AllByRecursion}
use Rattle.std.specs.Option.{option_to_list}
use Rattle.std.proofs.lemmas.List.{map-append}
use Rattle.serde_json.specs.View.{view}
use Rattle.ref_draft.proofs.Lists.{all_append}
use Rattle.ref_findings.specs.declared.gathering.Held.{Held}
use Rattle.ref_findings.specs.Entries.{source_of}
use Rattle.ref_findings.specs.Held.{held_source}
use Rattle.ref_findings.specs.inner.Wanted.{IsGoing}
use Rattle.ref_findings.proofs.Retrieving.{going_begun, gathered_all}
use Rattle.ref_findings.proofs.gathering.gather.Goals as goal

pub loop-count-init : goal.loop-count-init
loop-count-init g c =
    let r = g.R.Retrieve.meaning c.args.retriever.now in
    let sources = map source_of c.args.sources.now in
    let none : c.new-list.result.items ≡ [] = c.new-list.ensures.items in (
      subst (AllByRecursion (λ (h : Held). (g.R.Retrieve.meaning c.args.retriever.now).may_answer h.uri (view h.value))) (sym none) tt,
      ap length none,
      subst (λ l. IsGoing r c.args.draft sources c.in_ok-wants.wants (map held_source l)) (sym none)
          (going_begun r c.args.draft sources c.in_ok-wants.wants c.in_ok-wants.ensures.met c.in_ok-wants.ensures.wanted c.in_ok-wants.ensures.next),
    )

pub returns-in_default-clause-gathered : goal.returns-in_default-clause-gathered
returns-in_default-clause-gathered g c =
    let r = g.R.Retrieve.meaning c.args.retriever.now in
    let sources = map source_of c.args.sources.now in
    let old = map held_source c.loop-count.list.items in
    let w = c.retrieve_next.new.wants in
    let none : c.in_ok-held.field-0 ≡ None = search rules in
    let going : IsGoing r c.args.draft sources w (old ++ []) =
    subst (λ o. IsGoing r c.args.draft sources w (old ++ option_to_list (option_map held_source o))) none (c.in_ok-held.ensures.going sources old c.loop-count.invariant.2) in
    let ended : length w.wanted.items ≤ w.next = subst (λ o. IfNone o (length w.wanted.items ≤ w.next)) none c.in_ok-held.ensures.ended in
    gathered_all r c.args.draft sources w c.args.limit old (subst (λ l. IsGoing r c.args.draft sources w l) (append-nil old) going) ended

pub loop-count-preserved : goal.loop-count-preserved
loop-count-preserved g c =
    let r = g.R.Retrieve.meaning c.args.retriever.now in
    let sources = map source_of c.args.sources.now in
    let old = c.loop-count.list.items in
    let held = c.in-Some.held in
    let w = c.retrieve_next.new.wants in
    let some : c.in_ok-held.field-0 ≡ Some held = search rules in
    let may : (g.R.Retrieve.meaning c.args.retriever.now).may_answer held.uri (view held.value) = search rules in
    let grown = c.in_ok-push.ensures.items in
    let long : length c.push.new.self.items ≡ length old + 1 = ap length grown ∙ length-append old (held ∷ []) in (
      subst (AllByRecursion (λ (h : Held). (g.R.Retrieve.meaning c.args.retriever.now).may_answer h.uri (view h.value))) (sym grown)
          (all_append (λ (h : Held). (g.R.Retrieve.meaning c.args.retriever.now).may_answer h.uri (view h.value)) old (held ∷ []) c.loop-count.invariant.0 (may, tt)),
      omega (arith, long, c.loop-count.invariant.1),
      subst (λ l. IsGoing r c.args.draft sources w l) (sym (ap (map held_source) grown ∙ map-append held_source old (held ∷ [])))
          (subst (λ o. IsGoing r c.args.draft sources w (map held_source old ++ option_to_list (option_map held_source o))) some (c.in_ok-held.ensures.going sources (map held_source old) c.loop-count.invariant.2)),
    )
