-- The first and last bytes of the keywords that hold subschemas, for private clauses.
use Rattle.std.specs.Prelude.{ℕ, Bool, false, ◌||◌, nat_eq, if◌then◌else◌}

-- whether some keyword of some draft has these two bytes as its ends
abbrev pub are_ends : ℕ → ℕ → Bool
are_ends first last =
    if nat_eq first 36 then nat_eq last 115
    else (if nat_eq first 97 then nat_eq last 115 || nat_eq last 102
    else (if nat_eq first 99 then nat_eq last 115 || nat_eq last 97
    else (if nat_eq first 100 then nat_eq last 115
    else (if nat_eq first 101 then nat_eq last 101
    else (if nat_eq first 105 then nat_eq last 115 || nat_eq last 102
    else (if nat_eq first 110 then nat_eq last 116
    else (if nat_eq first 111 then nat_eq last 102
    else (if nat_eq first 112 then nat_eq last 115
    else (if nat_eq first 116 then nat_eq last 110
    else (if nat_eq first 117 then nat_eq last 115
    else false))))))))))
