use Rattle.std.proofs.Common.{refl, arith}
use Rattle.ref_uri.specs.Characters.{is_scheme_character}
use Rattle.ref_uri.specs.declared.characters.TheConstants.{FLAGS}
use Rattle.ref_uri.proofs.TableLemmas.{from_table}
use Rattle.ref_uri.proofs.characters.is_scheme_character.Goals as goal

pub returns : goal.returns
returns c = from_table FLAGS 2 is_scheme_character c.args.c (omega arith) refl
