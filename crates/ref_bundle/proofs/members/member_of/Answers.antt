use Rattle.std.proofs.Common.{rules, ◌≡◌, true, option_map}
use Rattle.ref_draft.specs.Children.{is_object}
use Rattle.ref_bundle.specs.Parts.{part_document}
use Rattle.ref_bundle.specs.Assembled.{member_value}
use Rattle.ref_bundle.proofs.Gotten.{got_text, got_own}
use Rattle.ref_bundle.proofs.members.member_of.Goals as goal

pub returns-in-Some : goal.returns-in-Some
returns-in-Some c =
    let d = part_document c.args.part.now in
    let object : is_object d.tree ≡ true = search rules in
    got_text c.args.draft d c.args.key.now c.in-Some.text.now object c.in-Some.ensures

pub returns-in-None : goal.returns-in-None
returns-in-None c =
    let d = part_document c.args.part.now in
    let object : is_object d.tree ≡ true = search rules in
    got_own c.args.draft d c.args.key.now (option_map member_value c.own.result) object c.in-None.ensures c.own.ensures
