-- Literal sources and findings for rows that compute.
use Prim.Native.String.{String as Literal}
use Rattle.std.specs.Prelude.{ℕ, List, [], codes, Some, None}
use Rattle.serde_json.specs.Data.{Data}
use Rattle.ref_paths.specs.Path.{Part}
use Rattle.ref_findings.specs.Sources.{Source}
use Rattle.ref_findings.specs.Findings.{Finding, Problem}

-- a source that is JSON, and one that isn't
abbrev pub source : Literal → Data → Source
source uri tree = record { uri = codes uri; tree = Some tree }

abbrev pub unread_source : Literal → Source
unread_source uri = record { uri = codes uri; tree = None }

-- a finding on the text under a keyword
abbrev pub finding_on : ℕ → List Part → Literal → Literal → Problem → Finding
finding_on number path keyword text problem =
    record {
      source = number;
      path = path;
      keyword = Some (codes keyword);
      text = Some (codes text);
      problem = problem;
    }

-- a finding on a value that is no text
abbrev pub finding_without_text : ℕ → List Part → Literal → Problem → Finding
finding_without_text number path keyword problem =
    record {
      source = number;
      path = path;
      keyword = Some (codes keyword);
      text = None;
      problem = problem;
    }

-- a finding on a source as a whole
abbrev pub finding_whole : ℕ → Problem → Finding
finding_whole number problem =
    record { source = number; path = []; keyword = None; text = None; problem = problem }
