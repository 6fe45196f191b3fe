-- Documents that were retrieved.
use Rattle.std.specs.Prelude.{Some}
use Rattle.serde_json.specs.View.{view}
use Rattle.ref_findings.specs.declared.gathering.Held.{Held}
use Rattle.ref_findings.specs.Sources.{Source}

-- a document that was retrieved, as a source
abbrev pub held_source : Held → Source
held_source h = record { uri = h.uri; tree = Some (view h.value) }
