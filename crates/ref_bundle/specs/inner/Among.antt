-- What a bundle is made among, and what is found first there.
use Rattle.std.specs.Prelude.{◌≡◌, ℕ, List, map, Option, option_map, Result, IfOk}
use Rattle.std.specs.List.{AllByRecursion}
use Rattle.ref_definitions.specs.World.{Document, Layer, World}
use Rattle.ref_bundle.specs.Needed.{Further, counted_documents}
use Rattle.ref_bundle.specs.Bundle.{Problem, BundleRefusal}
use Rattle.ref_bundle.specs.Saying.{problem_said, refusal_said, further_of}
use Rattle.ref_bundle.specs.declared.error.Problem as rust_problem
use Rattle.ref_bundle.specs.declared.error.Refusal as rust_refusal
use Rattle.ref_bundle.specs.declared.among.Among as rust
use Rattle.ref_bundle.specs.inner.First.{first}
use Rattle.ref_bundle.specs.inner.Reach.{AreMarked}
use Rattle.ref_bundle.specs.inner.Seen.{layer_in, numbered_document, numbered_part, HasPlaces, HasBase}
use Rattle.ref_bundle.specs.inner.Tables.{AreTables}

-- the own documents
abbrev pub layer_of : rust.Among → Layer
layer_of m = layer_in m.owns.now

-- the further places
abbrev pub further_among : rust.Among → Further
further_among m = further_of m.further.now

-- the registry
abbrev pub world_of : rust.Among → World
world_of m = m.bearers.now.registry.now

-- the root with its number
abbrev pub root_of : rust.Among → ℕ × Document
root_of m = numbered_part m.top.now

-- those that are embedded, with their numbers
abbrev pub parts_of : rust.Among → List (ℕ × Document)
parts_of m = map numbered_part m.parts.now

-- the documents are numbered in their order and have their places, the tables are theirs, marked are those that are needed,
-- and parts have their bases
pub record AreAmong (m : rust.Among) : Type 0 where
  pub order : map numbered_document m.owns.now ≡ counted_documents 0 (layer_in m.owns.now)
  pub places : AllByRecursion HasPlaces m.owns.now
  pub tables : AreTables (layer_in m.owns.now) m.bearers.now
  pub needed : AreMarked (layer_in m.owns.now) (further_of m.further.now) m.top.now.number
      m.needed.now
  pub root : HasBase m.top.now
  pub parts : AllByRecursion HasBase m.parts.now

-- a call that succeeds returns the first of these problems
abbrev pub SaysFirst : {E : Type 0} → Result (Option rust_problem.Problem) E → List Problem → Type 0
SaysFirst result problems = IfOk result (λ o. option_map problem_said o ≡ first problems)

-- the first of these refusals
abbrev pub RefusesFirst : {E : Type 0} → Result (Option rust_refusal.Refusal) E
    → List BundleRefusal → Type 0
RefusesFirst result refusals = IfOk result (λ o. option_map refusal_said o ≡ first refusals)
