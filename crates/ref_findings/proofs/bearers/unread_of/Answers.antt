use Rattle.std.proofs.Common.{◌≡◌, ◌∙◌, [], ◌++◌, map, flat_map, ap, sym, subst, IfOk, rules}
use Rattle.std.proofs.lemmas.List.Concat.{flat_map-append}
use Rattle.ref_parts.specs.Table.{entries_of}
use Rattle.ref_findings.specs.Sources.{unread_uri}
use Rattle.ref_findings.specs.Entries.{source_of}
use Rattle.ref_findings.proofs.bearers.unread_of.Goals as goal

pub returns : goal.returns
returns c =
    let ss = map source_of c.args.sources.now in
    let hs = map source_of c.args.held.now in
    let none : entries_of c.new-entries.result.items ≡ [] = ap entries_of c.new-entries.ensures.items in
    let all = c.in_ok-push_all_unread-2.ensures ∙ ap (λ es. es ++ flat_map unread_uri hs) c.in_ok-push_all_unread.ensures ∙ ap (λ es. (es ++ flat_map unread_uri ss) ++ flat_map unread_uri hs) none ∙ sym (flat_map-append unread_uri ss hs) in
    record { value = subst (λ es. IfOk c.from_entries.result (λ table. table ≡ es)) all c.from_entries.ensures.entered }
