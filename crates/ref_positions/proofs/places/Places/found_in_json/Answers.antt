use Rattle.std.proofs.Common.{[]}
use Rattle.ref_positions.specs.Parts.{value, parts}
use Rattle.ref_positions.specs.Walks.{IsTable}
use Rattle.ref_positions.specs.Json.{tokens_at, tokens_in}
use Rattle.ref_positions.proofs.places.Places.found_in_json.Goals as goal

pub returns : goal.returns
returns c =
    let through = c.in_ok-pass_tokens.ensures.through in
    let ps = parts (value []) 0 (tokens_at (tokens_in c.args.text.now) through.0) in
    let table : IsTable c.args.self.now c.into_found.result.items ps = rw c.into_found.ensures.found through.2.table in
    record { found = (through.0, through.1, c.last_of.ensures.last ps c.in_ok-walk.ensures.tree table) }
