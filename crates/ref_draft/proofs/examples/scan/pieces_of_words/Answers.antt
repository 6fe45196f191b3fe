use Rattle.std.proofs.Common.{refl}
use Rattle.std.proofs.Common.{sym, true≢false}
use Rattle.ref_draft.proofs.examples.scan.pieces_of_words.Goals as goal

pub returns : goal.returns
returns c = record {
  of_an_index = refl;
  of_a_value = refl;
  of_a_child = refl;
  no_pieces = refl;
  two_pieces = refl;
  an_index = tt;
  a_value = refl;
  no_value = λ is. true≢false (sym is);
  a_child = refl;
  no_child = λ is. true≢false (sym is);
  a_word = (refl, (refl, tt));
  no_word = λ is. true≢false (sym is.1.0);
}
