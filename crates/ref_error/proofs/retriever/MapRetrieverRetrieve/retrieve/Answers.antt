use Rattle.std.proofs.Common.{rules, ◌≡◌, sym, ◌∙◌, ap, refl, option_map, Some}
use Rattle.serde_json.specs.View.{view}
use Rattle.ref_error.specs.inner.Documents.{AreLast}
use Rattle.ref_error.proofs.Lasts.{put_in_turn, none_put, some_put}
use Rattle.ref_error.proofs.retriever.MapRetrieverRetrieve.retrieve.Goals as goal

pub returns-in_ok-clone-in-Some-clause-answer : goal.returns-in_ok-clone-in-Some-clause-answer
returns-in_ok-clone-in-Some-clause-answer c =
    let last : AreLast c.self.inside.documents c.args.self.now = search rules in
    let same : view c.in_ok-clone-in-Some.field-0 ≡ view c.in-Some.value.now = search rules in
    sym (put_in_turn c.args.uri.now c.args.self.now) ∙ ap (option_map view) (sym (last c.args.uri.now) ∙ sym c.in-Some.ensures.value) ∙ ap Some (sym same)

pub returns-in_ok-clone-in-Some-clause-missing : goal.returns-in_ok-clone-in-Some-clause-missing
returns-in_ok-clone-in-Some-clause-missing c none =
    let last : AreLast c.self.inside.documents c.args.self.now = search rules in
    absurd (some_put _ (view c.in-Some.value.now) (ap (option_map view) (c.in-Some.ensures.value ∙ last c.args.uri.now) ∙ put_in_turn c.args.uri.now c.args.self.now) none)

pub returns-in_err-clone-in-Some-clause-missing : goal.returns-in_err-clone-in-Some-clause-missing
returns-in_err-clone-in-Some-clause-missing c none =
    let last : AreLast c.self.inside.documents c.args.self.now = search rules in
    absurd (some_put _ (view c.in-Some.value.now) (ap (option_map view) (c.in-Some.ensures.value ∙ last c.args.uri.now) ∙ put_in_turn c.args.uri.now c.args.self.now) none)

pub returns-in-None-clause-refusal : goal.returns-in-None-clause-refusal
returns-in-None-clause-refusal c =
    let last : AreLast c.self.inside.documents c.args.self.now = search rules in
    (none_put _ (sym (put_in_turn c.args.uri.now c.args.self.now) ∙ ap (option_map view) (sym (last c.args.uri.now) ∙ sym c.in-None.ensures.value)), refl)
