use Rattle.std.proofs.Common.{sym, ◌∙◌}
use Rattle.std.proofs.lemmas.Bool.{false≢true}
use Rattle.ref_streams.proofs.Cutting.{left_nil}
use Rattle.ref_streams.proofs.line.Part.push.Goals as goal

pub returns-then-self : goal.returns-then-self
returns-then-self c = record {
  keeps = λ line k. record {
    kept = λ no. absurd (false≢true (sym no ∙ c.if-self.true));
    lost = λ _ none. k.lost c.if-self.true (left_nil line c.args.bytes.now none);
  };
}
