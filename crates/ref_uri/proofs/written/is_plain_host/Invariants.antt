use Rattle.std.proofs.Common.{◌≡◌, true, take}
use Rattle.std.specs.List.{list_all}
use Rattle.ref_uri.specs.inner.Written.{is_plain_in_host}
use Rattle.ref_uri.proofs.written.is_plain_host.Given as goal

abbrev pub invariant-loop-c : goal.invariant-loop-c
invariant-loop-c l = list_all is_plain_in_host (take l.c-index l.text) ≡ true
