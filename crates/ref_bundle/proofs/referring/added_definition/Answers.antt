use Rattle.std.proofs.Common.{◌≡◌, ℕ, Bool, true, false, List, [], ◌∷◌, cond, Option, None, Some, IfOk, option_map, option_and_then, string_bytes, ap, sym, subst, ◌∙◌, rules}
use Rattle.std.specs.Option.{option_map_or}
use Rattle.ref_draft.specs.declared.draft.Draft.{Draft}
use Rattle.ref_definitions.specs.World.{Layer}
use Rattle.ref_bundle.specs.Needed.{Further, Reference}
use Rattle.ref_bundle.specs.inner.First.{first}
use Rattle.ref_bundle.specs.Bundle.{AddedMember, definitions_keyword, pointer_in, second_key, is_added_definition}
use Rattle.ref_bundle.specs.Saying.{further_of, problem_said}
use Rattle.ref_bundle.specs.inner.Seen.{seen_reference, layer_in}
use Rattle.ref_bundle.proofs.Firsts.{member_by}
use Rattle.ref_bundle.proofs.referring.added_definition.Goals as goal

-- the problem of a key that was read after the keyword of definitions
definition_by : (layer : Layer) (fs : Further) (top : ℕ) (draft : Draft) (r : Reference) (keyword key : List ℕ) (read : Option (List ℕ)) (b : Bool) → keyword ≡ definitions_keyword draft
    → read ≡ option_and_then (second_key keyword) (pointer_in r.fragment) → read ≡ Some key → is_added_definition layer fs top key ≡ b
    → cond b (Some (AddedMember r.uri key)) None
    ≡ first (option_map_or (λ k. cond (is_added_definition layer fs top k) (AddedMember r.uri k ∷ []) []) (option_and_then (second_key (definitions_keyword draft)) (pointer_in r.fragment)) [])
definition_by layer fs top draft r keyword key read b named is some tested =
    member_by (is_added_definition layer fs top) r.uri key (option_and_then (second_key (definitions_keyword draft)) (pointer_in r.fragment)) b
    (ap (λ k. option_and_then (second_key k) (pointer_in r.fragment)) (sym named) ∙ sym is ∙ some) tested

pub returns-then-branch : goal.returns-then-branch
returns-then-branch c =
    let key = string_bytes c.in-Some.key in
    let by = definition_by (layer_in c.args.among.now.owns.now) (further_of c.args.among.now.further.now) c.args.among.now.top.now.number c.args.among.now.top.now.draft (seen_reference c.args.reference.now) c.definitions_keyword-keyword.result.now key (option_map string_bytes c.in_ok-key.field-0) true
    c.definitions_keyword-keyword.ensures.value c.in_ok-key.ensures.value (search rules) (search rules) in
    subst (λ t. IfOk c.added_member.result (λ o. option_map problem_said o ≡ t)) by c.added_member.ensures

pub returns : goal.returns
returns c =
    let test = is_added_definition (layer_in c.args.among.now.owns.now) (further_of c.args.among.now.further.now) c.args.among.now.top.now.number in
    let other : test (string_bytes c.in-Some.key) ≡ false = ap test (sym c.as_str.ensures.value) ∙ sym c.in_ok-is_added_definition.ensures ∙ c.if-branch.false in
    definition_by (layer_in c.args.among.now.owns.now) (further_of c.args.among.now.further.now) c.args.among.now.top.now.number c.args.among.now.top.now.draft (seen_reference c.args.reference.now) c.definitions_keyword-keyword.result.now (string_bytes c.in-Some.key) (option_map string_bytes c.in_ok-key.field-0) false
    c.definitions_keyword-keyword.ensures.value c.in_ok-key.ensures.value (search rules) other
