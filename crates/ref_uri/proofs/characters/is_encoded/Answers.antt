use Rattle.ref_uri.proofs.EncodedLemmas.{encoded_is_whole}
use Rattle.ref_uri.proofs.characters.is_encoded.Goals as goal

pub returns : goal.returns
returns c =
    let run = c.encoded_len.ensures in
    encoded_is_whole c.args.class c.args.text.now c.encoded_len.result run.within run.encoded run.longest
