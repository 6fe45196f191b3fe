-- The texts of the program's keywords.
use Rattle.std.specs.Prelude.{ℕ, List, codes}
use Rattle.ref_findings.specs.declared.keyword.Keyword.{Keyword}
use Rattle.ref_findings.specs.declared.keyword.Keyword.TheVariants.{OldId, Id, Ref, DynamicRef, RecursiveRef, Schema, Anchor, DynamicAnchor}

-- the text of a keyword
abbrev pub keyword_text : Keyword → List ℕ
keyword_text OldId = codes "id"
keyword_text Id = codes "$id"
keyword_text Ref = codes "$ref"
keyword_text DynamicRef = codes "$dynamicRef"
keyword_text RecursiveRef = codes "$recursiveRef"
keyword_text Schema = codes "$schema"
keyword_text Anchor = codes "$anchor"
keyword_text DynamicAnchor = codes "$dynamicAnchor"
