use Rattle.std.proofs.Common.{◌≡◌, true, false, Some, IfOk, option_map, option_and_then, string_bytes, sym, subst, ◌∙◌, rules}
use Rattle.ref_bundle.specs.Embedding.{is_added_under}
use Rattle.ref_bundle.specs.Bundle.{pointer_in, key_at}
use Rattle.ref_bundle.specs.Saying.{problem_said}
use Rattle.ref_bundle.specs.inner.Seen.{seen_reference, part_document}
use Rattle.ref_bundle.proofs.Firsts.{member_by}
use Rattle.ref_bundle.proofs.referring.added_in.Goals as goal

pub returns-then-is_added_under : goal.returns-then-is_added_under
returns-then-is_added_under c =
    let r = seen_reference c.args.reference.now in
    let key = string_bytes c.in-Some.key in
    let test = is_added_under c.args.draft (part_document c.args.part.now) in
    let read : option_map string_bytes c.in_ok-key.field-0 ≡ Some key = search rules in
    let is : test key ≡ true = search rules in
    subst (λ t. IfOk c.added_member.result (λ o. option_map problem_said o ≡ t)) (member_by test r.uri key (option_and_then (key_at 0) (pointer_in r.fragment)) true (sym c.in_ok-key.ensures.value ∙ read) is) c.added_member.ensures

pub returns : goal.returns
returns c =
    let r = seen_reference c.args.reference.now in
    let key = string_bytes c.in-Some.key in
    let test = is_added_under c.args.draft (part_document c.args.part.now) in
    let read : option_map string_bytes c.in_ok-key.field-0 ≡ Some key = search rules in
    let is : test key ≡ false = search rules in
    member_by test r.uri key (option_and_then (key_at 0) (pointer_in r.fragment)) false (sym c.in_ok-key.ensures.value ∙ read) is
