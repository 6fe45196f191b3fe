use Rattle.std.proofs.Common.{◌≡◌, true, false, codes, sym, rules}
use Rattle.serde_json.specs.View.{view}
use Rattle.ref_findings.proofs.Descriptions.{has, first, second, third, none}
use Rattle.ref_findings.proofs.list.description_keyword.Goals as goal

pub returns-then-is_some : goal.returns-then-is_some
returns-then-is_some c =
    let tree = view c.args.value.now in
    let is : has (codes "openapi") tree ≡ true = search rules in
    sym (first tree is)

pub returns-then-is_some-2 : goal.returns-then-is_some-2
returns-then-is_some-2 c =
    let tree = view c.args.value.now in
    let no : has (codes "openapi") tree ≡ false = search rules in
    let is : has (codes "swagger") tree ≡ true = search rules in
    sym (second tree no is)

pub returns-then-is_some-3 : goal.returns-then-is_some-3
returns-then-is_some-3 c =
    let tree = view c.args.value.now in
    let no : has (codes "openapi") tree ≡ false = search rules in
    let nor : has (codes "swagger") tree ≡ false = search rules in
    let is : has (codes "asyncapi") tree ≡ true = search rules in
    sym (third tree no nor is)

pub returns : goal.returns
returns c =
    let tree = view c.args.value.now in
    let no : has (codes "openapi") tree ≡ false = search rules in
    let nor : has (codes "swagger") tree ≡ false = search rules in
    let is : has (codes "asyncapi") tree ≡ false = search rules in
    sym (none tree no nor is)
