use Rattle.std.proofs.Common.{◌≡◌, ◌++◌, ◌∷◌, [], map, ap, ◌∙◌, rules}
use Rattle.ref_bundle.specs.Needed.{further_in}
use Rattle.ref_bundle.specs.Saying.{seen_spot, further_of}
use Rattle.ref_further.proofs.Groups.{one_more_empty}
use Rattle.ref_further.proofs.grouping.no_groups.Goals as goal

pub loop-number-preserved : goal.loop-number-preserved
loop-number-preserved c =
    let l = c.loop-number in
    let pushed : c.push.new.self.items ≡ l.groups.items ++ c.new.result ∷ [] = search rules in
    let empty : c.new.result.items ≡ [] = search rules in (
      search rules,
      λ n. ap (λ gs. further_in (further_of gs) n) pushed ∙ one_more_empty l.groups.items c.new.result (ap (map seen_spot) empty) l.invariant.1 n,
    )
