use Rattle.ref_lsp.proofs.Folders.{cut_at}
use Rattle.ref_lsp.proofs.completion.relative.Goals as goal

pub range_from-requires : goal.range_from-requires
range_from-requires c =
    cut_at c.as_bytes-base.result.now c.as_bytes.result.now c.args.uri.now c.shared-start.result
    c.shared-start.ensures.value c.as_bytes.ensures.value c.utf8.uri
