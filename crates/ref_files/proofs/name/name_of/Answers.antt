use Rattle.std.proofs.Common.{ℕ, List, ◌≡◌, ◌∙◌, ap, string_bytes, subst, Option, None, Some, IfSome, String, Global, IsUtf8}
use Rattle.std.proofs.lemmas.Str.{IsUtf8-string_bytes}
use Rattle.ref_files.specs.declared.name.Name.{Name}
use Rattle.ref_files.specs.Plain.{IsPlain}
use Rattle.ref_files.specs.Meant.{IsName}
use Rattle.ref_files.proofs.name.name_of.Goals as goal

named : (o : Option Name) (text : String Global) (segment : List ℕ) → string_bytes text ≡ segment → IfSome o (λ n. n.text ≡ text) → IfSome o (λ n. IsName segment)
named None text segment is same = tt
named (Some n) text segment is same =
    let bytes : string_bytes n.text ≡ segment = ap string_bytes same ∙ is in
    record { utf8 = subst IsUtf8 is (IsUtf8-string_bytes text); plain = subst IsPlain bytes n.plain }

pub returns-in-Some-clause-name : goal.returns-in-Some-clause-name
returns-in-Some-clause-name c =
    named c.new.result c.in-Some.text _ (rw c.in-Some.is at c.in_ok-text.ensures.value) c.new.ensures.value
