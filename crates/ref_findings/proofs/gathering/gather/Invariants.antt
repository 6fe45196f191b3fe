use Rattle.std.proofs.Common.{◌≡◌, length, map}
use Rattle.std.specs.List.{AllByRecursion}
use Rattle.serde_json.specs.View.{view}
use Rattle.ref_findings.specs.declared.gathering.Held.{Held}
use Rattle.ref_findings.specs.Entries.{source_of}
use Rattle.ref_findings.specs.Held.{held_source}
use Rattle.ref_findings.specs.inner.Wanted.{IsGoing}
use Rattle.ref_findings.proofs.gathering.gather.Given as goal

abbrev pub invariant-loop-count : goal.invariant-loop-count
invariant-loop-count g l =
    AllByRecursion (λ (held : Held). (g.R.Retrieve.meaning l.retriever).may_answer held.uri (view held.value)) l.list.items × (length l.list.items ≡ l.count)
    × IsGoing (g.R.Retrieve.meaning l.retriever) l.draft (map source_of l.sources) l.wants (map held_source l.list.items)
