-- What no clause of a public call cites: definitions that private functions, and the laws by which resolvers are equal, speak
-- of. A reader who wants to know what a call promises need not read them.
pub mod Located
pub mod Walking
pub mod Leading
pub mod Scoped
pub mod Comparing
pub mod Names
