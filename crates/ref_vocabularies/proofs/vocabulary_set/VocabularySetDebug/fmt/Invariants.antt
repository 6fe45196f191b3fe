use Rattle.std.proofs.Common.{◌≡◌, ◌++◌, take}
use Rattle.std.specs.Fmt.{HasWritten, IsPlainFormatter}
use Rattle.ref_vocabularies.specs.inner.Shown.{names_before, opened_text, is_nil}
use Rattle.ref_vocabularies.proofs.vocabulary_set.VocabularySetDebug.fmt.Given as goal

abbrev pub invariant-loop-place : goal.invariant-loop-place
invariant-loop-place g l = record {
  first : l.is_first ≡ is_nil (names_before l.known l.place);
  written : IsPlainFormatter l.fn.f → HasWritten g.W.Write.write_str_gives l.fn.f (opened_text (names_before l.known l.place)) l.f;
}

abbrev pub invariant-loop-uri : goal.invariant-loop-uri
invariant-loop-uri g l = record {
  first : l.is_first ≡ is_nil (names_before l.known 9 ++ take l.uri-index l.uris);
  written : IsPlainFormatter l.fn.f → HasWritten g.W.Write.write_str_gives l.fn.f (opened_text (names_before l.known 9 ++ take l.uri-index l.uris)) l.f;
}
