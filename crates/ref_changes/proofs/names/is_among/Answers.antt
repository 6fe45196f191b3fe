use Rattle.std.proofs.Common.{[], sym}
use Rattle.ref_changes.specs.Changes.{is_texts}
use Rattle.ref_changes.specs.Views.{texts_of}
use Rattle.ref_changes.proofs.Telling.{any_at, both}
use Rattle.ref_changes.proofs.names.is_among.Goals as goal

pub returns-then-eq-2 : goal.returns-then-eq-2
returns-then-eq-2 c =
    any_at (is_texts (texts_of c.args.texts.now)) texts_of c.args.all.now c.loop-other.other-index (record { before = record { ref_ptr = (0, 0); now = [] }; after = record { ref_ptr = (0, 0); now = [] } }) c.loop-other-test.true
    (both _ _ (sym c.if-eq.ensures) (sym c.if-eq-2.ensures))
