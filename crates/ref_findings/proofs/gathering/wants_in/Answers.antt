use Rattle.std.proofs.Common.{◌∙◌, ◌++◌, [], map, flat_map, ap, bytes_eq, is_some}
use Rattle.std.specs.Map.{lookup}
use Rattle.ref_findings.specs.inner.Seen.{seen_survey}
use Rattle.ref_findings.specs.inner.Wanted.{wanted_seen}
use Rattle.ref_findings.proofs.gathering.wants_in.Goals as goal

pub returns-clause-met : goal.returns-clause-met
returns-clause-met c = c.in_ok-add_surveys.ensures.0 [] (λ uri. ap (λ es. is_some (lookup (bytes_eq uri) es)) c.new-2.ensures.empty)

pub returns-clause-wanted : goal.returns-clause-wanted
returns-clause-wanted c =
    c.in_ok-add_surveys.ensures.1 ∙ ap (λ us. map (λ u. u.value) us ++ flat_map wanted_seen (map seen_survey c.args.surveys.now)) c.new.ensures.items
