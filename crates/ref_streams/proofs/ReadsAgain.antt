-- Reads after reads that gave nothing.
use Rattle.std.proofs.Common.{ℕ, List, Option, Some, None, Result, Ok, Err, take, sym, ◌∙◌}
use Rattle.std.specs.Io.KnownBytes.{Keeps, Consumes, ReadConsumes}

-- bytes that stay, and stay again
pub keeps_twice : (a b c : Option (List ℕ)) → Keeps a b → Keeps b c → Keeps a c
keeps_twice None b c first second = tt
keeps_twice (Some xs) None c first second = absurd first
keeps_twice (Some xs) (Some ys) None first second = absurd second
keeps_twice (Some xs) (Some ys) (Some zs) first second = second ∙ first

consumes_after : (a b c : Option (List ℕ)) (bs : List ℕ) → Keeps a b → Consumes b c bs → Consumes a c bs
consumes_after None b c bs first second = tt
consumes_after (Some xs) None c bs first second = absurd first
consumes_after (Some xs) (Some ys) None bs first second = absurd second
consumes_after (Some xs) (Some ys) (Some zs) bs first second = sym first ∙ second

-- a read after one that gave nothing
pub reads_after : {E : Type 0} (a b c : Option (List ℕ)) (r : Result ℕ E) (buffer : List ℕ) → Keeps a b → ReadConsumes b c r buffer → ReadConsumes a c r buffer
reads_after a b c (Ok n) buffer first second = (consumes_after a b c (take n buffer) first second.0, second.1)
reads_after a b c (Err e) buffer first second = keeps_twice a b c first second
