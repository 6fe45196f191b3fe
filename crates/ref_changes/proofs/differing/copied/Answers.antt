use Rattle.std.proofs.Common.{◌≡◌, ℕ, List, ap, ◌∙◌, rules}
use Rattle.std.specs.List.{AllZip}
use Rattle.serde_json.specs.View.{view}
use Rattle.ref_paths.specs.Path.{Part}
use Rattle.ref_paths.specs.Segment.{part_of}
use Rattle.ref_changes.specs.Sites.{Site}
use Rattle.ref_changes.proofs.Telling.{copied_parts}
use Rattle.ref_changes.proofs.differing.copied.Goals as goal

pub returns : goal.returns
returns c =
    let p = c.args.place.now in
    let copies : AllZip (λ s copy. part_of copy ≡ part_of s) p.path.items c.in_ok-path.path.items = search rules in
    let site : List Part → List ℕ → Site = λ path base. record { document = p.document; path = path; value = view p.value.now; draft = p.draft; base = base } in
    ap (λ path. site path c.in_ok-base.base.value) (copied_parts p.path.items c.in_ok-path.path.items copies) ∙ ap (site _) c.in_ok-base.ensures.cases
