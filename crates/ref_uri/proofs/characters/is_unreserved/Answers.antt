use Rattle.std.proofs.Common.{refl, arith}
use Rattle.ref_uri.specs.Characters.{is_unreserved}
use Rattle.ref_uri.specs.declared.characters.TheConstants.{FLAGS}
use Rattle.ref_uri.proofs.TableLemmas.{from_table}
use Rattle.ref_uri.proofs.characters.is_unreserved.Goals as goal

pub returns : goal.returns
returns c = from_table FLAGS 1 is_unreserved c.args.c (omega arith) refl
