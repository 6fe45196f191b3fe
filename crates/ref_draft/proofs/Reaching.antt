-- What parts lead to, part by part.
use Rattle.std.proofs.Common.{◌≡◌, List, [], ◌∷◌, ◌++◌, Bool, refl, sym, ap, ◌∙◌, append_assoc}
use Rattle.std.proofs.lemmas.List.{append-nil}
use Rattle.ref_paths.specs.Path.{Part, Key, Index}
use Rattle.ref_draft.specs.declared.draft.Draft.{Draft}
use Rattle.ref_draft.specs.declared.reached.Reached.{Reached}
use Rattle.ref_draft.specs.declared.reached.Reached.TheVariants.{Schema, Schemas, BelowItems, Other}
use Rattle.ref_draft.specs.declared.spec.Holding.{Holding}
use Rattle.ref_draft.specs.declared.spec.Holding.TheVariants.{Whole, WholeObject, Elements, Members as EachMember, ElementsOrWhole, ObjectMembers, Nothing}
use Rattle.ref_draft.specs.Keywords.{holding_of}
use Rattle.ref_draft.specs.ScanSteps.{scan, scan_past}
use Rattle.ref_draft.specs.Reached.{HasReached, accepts_at, reached_after, reached_under, scan_from}
use Rattle.ref_draft.proofs.Holdings.{by_holding, scan_key}

under_keyword : (d : Draft) (object : Bool) (rest : List Part) (how : Holding) → by_holding how object (scan d object rest) (scan_past d object rest) ≡ scan_from d object (reached_under how) rest
under_keyword d object rest Whole = refl
under_keyword d object rest WholeObject = refl
under_keyword d object rest Elements = refl
under_keyword d object rest EachMember = refl
under_keyword d object rest ElementsOrWhole = refl
under_keyword d object rest ObjectMembers = refl
under_keyword d object rest Nothing = refl

one_part : (d : Draft) (object : Bool) (reached : Reached) (part : Part) (rest : List Part) → scan_from d object reached (part ∷ rest) ≡ scan_from d object (reached_after d reached part) rest
one_part d object Schema (Key k) rest = scan_key d object k rest ∙ under_keyword d object rest (holding_of d k)
one_part d object Schema (Index i) rest = refl
one_part d object Schemas part rest = refl
one_part d object BelowItems part rest = refl
one_part d object Other part rest = refl

-- no part
pub reached_start : (d : Draft) → HasReached d [] Schema
reached_start d = λ object rest. refl

-- one part more
pub reached_on : (d : Draft) (parts : List Part) (reached : Reached) (part : Part) → HasReached d parts reached → HasReached d (parts ++ part ∷ []) (reached_after d reached part)
reached_on d parts reached part has = λ object rest. ap (scan d object) (append_assoc parts (part ∷ []) rest) ∙ has object (part ∷ rest) ∙ one_part d object reached part rest

no_part : (d : Draft) (object : Bool) (reached : Reached) → scan_from d object reached [] ≡ accepts_at object reached
no_part d object Schema = refl
no_part d object Schemas = refl
no_part d object BelowItems = refl
no_part d object Other = refl

-- whether the parts are accepted
pub reached_accepts : (d : Draft) (object : Bool) (parts : List Part) (reached : Reached) → HasReached d parts reached → scan d object parts ≡ accepts_at object reached
reached_accepts d object parts reached has = ap (scan d object) (sym (append-nil parts)) ∙ has object [] ∙ no_part d object reached
