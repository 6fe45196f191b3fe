pub mod Alike
pub mod Encoded
pub mod FiniteMap
pub mod inner
pub mod Lent
pub mod Pointer
pub mod Rows
pub mod Table
-- What its clauses cite of the paths that this crate re-exports.
pub use Rattle.ref_paths.specs.Path
pub use Rattle.ref_paths.specs.Segment
