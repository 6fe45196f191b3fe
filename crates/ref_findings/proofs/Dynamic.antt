-- The keywords of dynamic references.
use Rattle.std.proofs.Common.{◌≡◌, ◌∙◌, ap, Some, None}
use Rattle.std.specs.Prelude.{codes}
use Rattle.serde_json.specs.Data.{Data}
use Rattle.serde_json.specs.Find.{get}
use Rattle.ref_draft.specs.declared.draft.Draft.{Draft}
use Rattle.ref_draft.specs.declared.draft.Draft.TheVariants.{Draft4, Draft6, Draft7, Draft201909, Draft202012, Unknown}
use Rattle.ref_findings.specs.declared.keyword.Keyword.{Keyword}
use Rattle.ref_findings.specs.Places.{dynamic_keyword}
use Rattle.ref_findings.specs.inner.Keywords.{keyword_text}
use Rattle.ref_findings.specs.inner.Plain.{HasNoDynamic}
use Rattle.ref_findings.proofs.Placing.{none_of}

-- a value without such a member has none under the keyword of its draft
pub none_under : (draft : Draft) (keyword : Keyword) (value : Data) → Some (keyword_text keyword) ≡ dynamic_keyword draft → HasNoDynamic value → get (keyword_text keyword) value ≡ None
none_under Draft4 keyword value is none = cc
none_under Draft6 keyword value is none = cc
none_under Draft7 keyword value is none = cc
none_under Draft201909 keyword value is none =
    let same : keyword_text keyword ≡ codes "$recursiveRef" = cc in
    ap (λ k. get k value) same ∙ none_of (get (codes "$recursiveRef") value) none.1
none_under Draft202012 keyword value is none =
    let same : keyword_text keyword ≡ codes "$dynamicRef" = cc in
    ap (λ k. get k value) same ∙ none_of (get (codes "$dynamicRef") value) none.0
none_under Unknown keyword value is none =
    let same : keyword_text keyword ≡ codes "$dynamicRef" = cc in
    ap (λ k. get k value) same ∙ none_of (get (codes "$dynamicRef") value) none.0
