use Rattle.std.proofs.Common.{[], ◌++◌, codes, if◌then◌else◌, true, refl, sym, subst, ◌∙◌, ap, append_assoc, append-nil, false}
use Rattle.std.specs.Fmt.{HasWritten}
use Rattle.std.proofs.lemmas.Grind.{put_two}
use Rattle.ref_resolver.proofs.Showing.{rest, all_of_them, nothing_written}
use Rattle.ref_resolver.proofs.resolver.write_scope.Goals as goal

pub loop-uri-init : goal.loop-uri-init
loop-uri-init g c = (
  λ plain. ([], nothing_written g.W.Write.write_str_gives c.args.f.now plain, ap (rest true) c.into_iter-uri-iterator.ensures.into_iter_gives ∙ all_of_them c.args.scope.now),
  tt,
  tt,
)

pub loop-uri-preserved : goal.loop-uri-preserved
loop-uri-preserved g c = (
  λ plain.
      let (text, so_far, is) = c.loop-uri.invariant.0 plain in
      let item = (if c.loop-uri.is_first then [] else codes ", ") ++ c.in-Some.uri.now in (
        text ++ item,
        put_two g.W.Write.write_str_gives c.args.f.now c.loop-uri.f c.write_uri.new.f text item (text ++ item) so_far (rw c.as_str.ensures.value at (c.in_ok-write_uri.ensures so_far.plain refl)) refl,
        append_assoc text item (rest false c.next.new.self) ∙ ap (λ us. text ++ rest c.loop-uri.is_first us) (sym c.in-Some.ensures.steps) ∙ is,
      ),
  tt,
  tt,
)

pub returns : goal.returns
returns g c = λ plain _.
    let (text, so_far, is) = c.loop-uri.invariant.0 plain in
    subst (λ t. HasWritten g.W.Write.write_str_gives c.args.f.now t c.loop-uri.f)
    (sym (append-nil text) ∙ ap (λ us. text ++ rest c.loop-uri.is_first us) (sym c.in-None.ensures.steps.0) ∙ is) so_far
