pub mod Replace
