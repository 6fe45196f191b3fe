use Rattle.ref_uri.proofs.WrittenAtOnce.{written_at_once}
use Rattle.ref_uri.proofs.target.Target.normal_form.Goals as goal

pub returns-then-loses_same_dots : goal.returns-then-loses_same_dots
returns-then-loses_same_dots c = written_at_once c.args.self c.requires (c.loses_same_dots.ensures c.if-loses_same_dots.true)
