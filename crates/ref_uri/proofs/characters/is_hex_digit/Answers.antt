use Rattle.std.proofs.Common.{refl, arith}
use Rattle.std.specs.Char.{is_ascii_hexdigit}
use Rattle.ref_uri.specs.declared.characters.TheConstants.{FLAGS}
use Rattle.ref_uri.proofs.TableLemmas.{from_table}
use Rattle.ref_uri.proofs.characters.is_hex_digit.Goals as goal

pub returns : goal.returns
returns c = from_table FLAGS 4 is_ascii_hexdigit c.args.c (omega arith) refl
