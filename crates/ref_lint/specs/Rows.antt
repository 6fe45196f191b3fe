-- Literal references for rows that compute.
use Prim.Native.String.{String as Literal}
use Rattle.std.specs.Prelude.{ℕ, List, codes}
use Rattle.ref_paths.specs.Path.{Part}
use Rattle.ref_definitions.specs.Fault.{Fault}
use Rattle.ref_lint.specs.Dangling.{DanglingReference}

-- a reference at a path of a document
abbrev pub reference : ℕ → List Part → Literal → Fault → DanglingReference
reference number path text fault =
    record { document = number; path = path; reference = codes text; fault = fault }
