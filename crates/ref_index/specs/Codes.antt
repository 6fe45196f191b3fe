-- That JSON trees, and the documents made of them, are plain data: the codes by which the contracts of a type may see
-- documents as its value. They say nothing of references.
use Rattle.std.specs.Prelude.{ℕ, List, [], refl}
use Rattle.std.specs.Coded.{Coded, code_by, coded×, coded_ℕ, coded_list}
use Rattle.std.proofs.Common.{ap}
use Rattle.serde_json.specs.Data.{Data}
use Rattle.ref_draft.specs.declared.draft.Draft.{Draft}
use Rattle.ref_definitions.specs.World.{Document, World}
use Rattle.ref_index.specs.inner.Marks.{Mark, marks_code, marks_of, read_all, reads, tree_at_front, draft_number, draft_at, draft_at-draft_number}

abbrev pub tree_code : Coded Data
tree_code =
    code_by (List Mark) marks_code (λ d. marks_of d []) (λ ms. tree_at_front (read_all ms))
    (λ d. ap tree_at_front (reads d []))

abbrev pub draft_code : Coded Draft
draft_code = code_by ℕ coded_ℕ draft_number draft_at draft_at-draft_number

abbrev pub document_code : Coded Document
document_code =
    code_by (List ℕ × (Data × Draft)) (coded× (coded_list coded_ℕ) (coded× tree_code draft_code))
    (λ d. (d.uri, (d.tree, d.draft))) (λ p. record { uri = p.0; tree = p.1.0; draft = p.1.1 })
    (λ _. refl)

abbrev pub layer_code : Coded (List Document)
layer_code = coded_list document_code

abbrev pub world_code : Coded World
world_code = coded_list layer_code
