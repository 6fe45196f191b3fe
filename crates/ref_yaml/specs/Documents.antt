-- What value a text is. Texts are their bytes.
use Rattle.std.specs.Prelude.{ℕ, ◌≤◌, List, [], length, All}
use Rattle.serde_json.specs.Data.{Data}
use Rattle.ref_yaml.specs.Events.{IsWithin, IsInPlace, most_events}
use Rattle.ref_yaml.specs.Values.{IsValue}
use Rattle.ref_yaml.specs.declared.event.Event.{Event}

-- events of a text: each is within it, and begins and ends at what its kind does
abbrev pub AreEventsOf : List ℕ → List Event → Type 0
AreEventsOf text events = All (IsWithin (length text)) events × All (IsInPlace text) events × (length events ≤ most_events (length text))

-- a text read as a value: it is the value of events of this text
abbrev pub IsYamlOf : List ℕ → Data → Type 0
IsYamlOf text d = (events : List Event) × AreEventsOf text events × IsValue text events d []
