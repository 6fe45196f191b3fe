pub mod OnLiterals
mod Bits
mod Sorted
mod Variants
mod Texts
mod Faults
mod Shown
mod Growth
mod Drafts
