use Rattle.std.proofs.Common.{◌≡◌, ◌+◌, ◌++◌, ◌∷◌, [], get_or, take, refl, sym, ◌∙◌, ap, append_assoc}
use Rattle.std.proofs.lemmas.List.{take_more}
use Rattle.ref_vocabularies.specs.Vocabularies.{Core, all_known, name}
use Rattle.ref_vocabularies.specs.inner.Shown.{names_before, is_nil}
use Rattle.ref_vocabularies.proofs.Shown.{is_nil_more, names_with, names_without, bit_is_set, bit_is_clear, item_written}
use Rattle.ref_vocabularies.proofs.vocabulary_set.VocabularySetDebug.fmt.Goals as goal
use Rattle.ref_vocabularies.proofs.vocabulary_set.VocabularySetDebug.fmt.Goals.{then-known-place-eq1+in_ok-write_item, else-known-place-eq1}

pub loop-place-preserved : goal.loop-place-preserved
loop-place-preserved g c =
    let known = c.self.inside.known in
    let place = c.loop-place.place in
    elim c.if-known-place-eq1.branch [
      | then-known-place-eq1+in_ok-write_item w ↦
          let text = name (get_or all_known place Core) in
          let more : names_before known (place + 1) ≡ names_before known place ++ text ∷ [] =
          names_with known place c.loop-place-test.true (bit_is_set known place w.if-known-place-eq1.true) in
          record {
            first = w.is_first-is ∙ sym (is_nil_more (names_before known place) text) ∙ ap is_nil (sym more);
            written = λ plain.
                let so_far = c.loop-place.invariant.written plain in
                rw w.f-is
                (item_written g.W.Write.write_str_gives c.args.f.now c.loop-place.f w.write_item.new.f (names_before known place) text (names_before known (place + 1))
                c.loop-place.is_first c.loop-place.invariant.first more so_far (rw w.name_at.ensures at (w.in_ok-write_item.ensures so_far.plain refl)));
          }
      | else-known-place-eq1 w ↦
          let same : names_before known (place + 1) ≡ names_before known place =
          names_without known place c.loop-place-test.true (bit_is_clear known place w.if-known-place-eq1.false) in
          rw (w.f-is, w.is_first-is, same) c.loop-place.invariant
    ]

pub loop-uri-preserved : goal.loop-uri-preserved
loop-uri-preserved g c =
    let uris = c.uris-uris.result.now in
    let names = names_before c.self.inside.known 9 in
    let uri = c.uri-item.result in
    let more : names ++ take (c.loop-uri.uri-index + 1) uris ≡ (names ++ take c.loop-uri.uri-index uris) ++ uri ∷ [] =
    ap (λ us. names ++ us) (take_more uris c.loop-uri.uri-index uri c.loop-uri-test.true ∙ ap (λ u. take c.loop-uri.uri-index uris ++ u ∷ []) (sym c.uri-item.is))
    ∙ sym (append_assoc names (take c.loop-uri.uri-index uris) (uri ∷ [])) in
    record {
      first = sym (ap is_nil more ∙ is_nil_more (names ++ take c.loop-uri.uri-index uris) uri);
      written = λ plain.
          let so_far = c.loop-uri.invariant.written plain in
          item_written g.W.Write.write_str_gives c.args.f.now c.loop-uri.f c.write_item-in-loop-uri.new.f (names ++ take c.loop-uri.uri-index uris) uri (names ++ take (c.loop-uri.uri-index + 1) uris)
          c.loop-uri.is_first c.loop-uri.invariant.first more so_far (rw c.as_str.ensures.value at (c.in_ok-write_item-2.ensures so_far.plain refl));
    }
