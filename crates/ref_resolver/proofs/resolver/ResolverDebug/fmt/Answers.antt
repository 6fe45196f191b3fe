use Rattle.std.proofs.Common.{◌≡◌, refl, append_assoc, rules}
use Rattle.std.proofs.lemmas.Grind.{put_three}
use Rattle.ref_resolver.proofs.resolver.ResolverDebug.fmt.Goals as goal

pub returns : goal.returns
returns g c = record {
  writes = λ plain ok.
      let base : c.as_str-base.result.now ≡ c.args.self.now.base.value = search rules in
      let opened = rw base at (c.in_ok-write.ensures.writes plain refl) in
      let listed = c.in_ok-write_scope.ensures opened.plain refl in
      put_three g.W.Write.write_str_gives c.args.f.now c.write.new.self c.write_scope.new.f c.write-2.new.self _ _ _ _ opened listed (c.write-2.ensures.writes listed.plain ok) (simp append_assoc);
}
