use Rattle.std.proofs.Common.{◌≡◌, ◌∙◌, sym, Some}
use Rattle.ref_positions.specs.Paths.{number_of}
use Rattle.ref_positions.proofs.Walks.{sound}
use Rattle.ref_positions.proofs.walk.Level.member.Goals as goal

pub returns : goal.returns
returns c = record {
  value = λ p tree is.
      let at : number_of c.args.places.now p ≡ Some c.in_ok-self.field-0 = cc (is, c.in_ok-self.is, c.in_ok-self.was, c.branch-self.ensures) in
      c.find_member.ensures.value p (sound c.args.places.now p c.in_ok-self.field-0 at);
}
