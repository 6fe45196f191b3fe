-- How a set is kept: the known vocabularies as bits of a number, the URIs of the others sorted.
use Rattle.std.specs.Prelude.{ℕ, ◌^◌, ◌==◌, List, filter}
use Rattle.std.specs.Int.{bit_at}
use Rattle.ref_vocabularies.specs.Vocabularies.{Known, all_known, bit, Vocabulary, Standard, Custom}

-- the number whose one bit is that of a known vocabulary; 0 for another
abbrev pub mask : Vocabulary → ℕ
mask (Standard k) = 2 ^ bit k
mask (Custom uri) = 0

-- the known vocabularies whose bits are set
abbrev pub known_of : ℕ → List Known
known_of bits = filter (λ k. bit_at bits (bit k) == 1) all_known
