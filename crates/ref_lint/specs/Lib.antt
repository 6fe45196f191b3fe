pub mod Dangling
pub mod Entries
pub mod Rows
pub mod inner
-- What public clauses cite of the crates below: a caller imports it from here.
pub use Rattle.ref_definitions.specs.World
pub use Rattle.ref_definitions.specs.Places
pub use Rattle.ref_definitions.specs.Listing
pub use Rattle.ref_definitions.specs.Lookup
pub use Rattle.ref_definitions.specs.Fault
pub use Rattle.ref_uri.specs.Targets
pub use Rattle.ref_paths.specs.Path
pub use Rattle.ref_paths.specs.Segment
pub use Rattle.ref_draft.specs.Schema
pub use Rattle.ref_error.specs.Errors
pub use Rattle.ref_error.specs.declared.error.Error
