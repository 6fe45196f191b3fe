pub mod LineFeeds
pub mod Chomping
pub mod Texts
pub mod Trees
pub mod Numbers
pub mod OneLine
pub mod Derivations
pub mod Digits
