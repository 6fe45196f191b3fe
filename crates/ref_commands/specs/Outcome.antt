-- What `lint` has counted, and the exit status that it comes to.
use Rattle.std.specs.Prelude.{ℕ, Bool, true, false, not, nat_lt, nat_le, ◌==◌, ◌&&◌, ◌||◌, ◌+◌, if◌then◌else◌, Option, Some, None}
use Rattle.ref_messages.specs.declared.message.Level.{Level}
use Rattle.ref_messages.specs.declared.message.Level.TheVariants.{Error, Warning, Note}
use Rattle.ref_commands.specs.declared.outcome.Count.{Count}
use Rattle.ref_commands.specs.declared.outcome.Nothing.{Nothing}
use Rattle.ref_commands.specs.declared.outcome.Nothing.TheVariants.{PassedOver, Ignored, NoFile, Within}

-- whether something was looked at in so many files: one of them was read, or there is a reference
abbrev pub is_looked_at : Count → ℕ → Bool
is_looked_at c files = nat_lt c.unread files || nat_lt 0 c.references

-- one more; a count stops at the greatest number of 64 bits
abbrev pub one_more : ℕ → ℕ
one_more n = if n == 18446744073709551615 then n else n + 1

-- one more finding of a level
abbrev pub with_finding : Level → Count → Count
with_finding Error c = record c { errors = one_more c.errors }
with_finding Warning c = record c { warnings = one_more c.warnings }
with_finding Note c = record c { notes = one_more c.notes }

-- 2 where a path couldn't be read, or else 0 where all is fine, and 1 where it isn't
abbrev pub status : Bool → Bool → ℕ
status is_fine true = 2
status true false = 0
status false false = 1

-- whether there are at most so many warnings, where that is asked for
abbrev pub is_within : Count → Option ℕ → Bool
is_within c None = true
is_within c (Some most) = nat_le c.warnings most

-- all is fine: no error, not too many warnings, and something was looked at
abbrev pub is_fine : Count → ℕ → Option ℕ → Bool
is_fine c files most = c.errors == 0 && is_within c most && is_looked_at c files

abbrev pub lint_status : Count → ℕ → Option ℕ → Bool → ℕ
lint_status c files most has_failed = status (is_fine c files most) has_failed

-- why nothing was looked at in so many files, of so many that were passed over, and so many that Git leaves out
abbrev pub nothing_of : ℕ → ℕ → ℕ → Nothing
nothing_of files passed ignored =
    if nat_lt 0 files then Within
    else (if nat_lt 0 passed then PassedOver
    else (if nat_lt 0 ignored then Ignored else NoFile))

-- colours are there where that is asked for, or else on a terminal that has them, unless the environment asks for none
abbrev pub is_colored : Option Bool → Bool → Bool → Bool → Bool
is_colored (Some is_on) is_terminal has_none is_dumb = is_on
is_colored None is_terminal has_none is_dumb = is_terminal && not has_none && not is_dumb
