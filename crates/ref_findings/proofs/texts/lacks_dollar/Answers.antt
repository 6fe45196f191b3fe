use Rattle.std.proofs.Common.{◌≡◌, ◌<◌, slice_index, string_bytes, subst, rules}
use Rattle.serde_json.specs.View.{view}
use Rattle.ref_findings.proofs.Plain.{get_none_after}
use Rattle.ref_findings.proofs.texts.lacks_dollar.Goals as goal

pub returns : goal.returns
returns c = λ so key.
    let first = c.in-Some-first_key_value.first.now in
    let text : c.as_str.result.now ≡ string_bytes first = search rules in
    let behind : 36 < slice_index (string_bytes first) 0 = subst (λ t. 36 < slice_index t 0) text (c.is_after_dollar.ensures so) in
    get_none_after (string_bytes first) key (view c.args.value.now) c.in-Some.members.now.entries behind c.in-Some-first_key_value.ensures.all_from c.in-Some.ensures
