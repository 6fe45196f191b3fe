use Rattle.std.proofs.Common.{refl, sym, subst, ap, ◌∙◌, rules}
use Rattle.std.specs.Str.{IsUtf8}
use Rattle.serde_json.specs.View.{view}
use Rattle.ref_parts.specs.Pointer.{tokens}
use Rattle.ref_resolver.proofs.Pointing.{without_parts, leads_same, text_leads}
use Rattle.ref_resolver.proofs.Undecoded.{undecoded}
use Rattle.ref_resolver.proofs.pointed.follow_pointer.Goals as goal

pub returns-then-walk_plainly : goal.returns-then-walk_plainly
returns-then-walk_plainly c = record {
  gives =
      let draft = c.args.walk.now.draft in
      let pointer = c.args.walk.now.pointer.now in
      let base = c.args.along.now.base.value in
      let d = view c.args.along.now.value.now in
      let text = c.args.text.now in
      let utf8 : IsUtf8 text = search rules in
      let itself = undecoded text (λ i less. c.if-walk_plainly.ensures.decoded refl i 0 less) in
      sym (text_leads draft pointer base text text d (sym itself) (subst IsUtf8 (sym itself) utf8)) ∙ leads_same draft pointer base d (tokens text) ∙ ap without_parts (c.if-walk_plainly.ensures.passed refl);
}
