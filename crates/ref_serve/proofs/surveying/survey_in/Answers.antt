use Rattle.std.proofs.Common.{◌≡◌, [], ◌++◌, map, ap, ◌∙◌, Ok, rules}
use Rattle.serde_json.specs.View.{view}
use Rattle.serde_json.proofs.Views.{view-Array}
use Rattle.ref_reach.specs.Views.{place_of}
use Rattle.ref_reach.specs.Knowing.{known_of}
use Rattle.ref_further.specs.Surveyed.{surveyed}
use Rattle.ref_calls.specs.Objects.{list_of}
use Rattle.ref_serve.specs.Surveys.{surveyed_object}
use Rattle.ref_serve.proofs.ThreeLists.{three_lists}
use Rattle.ref_serve.proofs.surveying.survey_in.Goals as goal

pub returns : goal.returns
returns c =
    let survey = c.in_ok-survey.survey in
    let own = (known_of survey.documents).own in
    let described = map place_of survey.described.items in
    let led = map place_of survey.led.items in
    let zero = map view c.new-list.result.items in
    let one = map view c.push_all.new.list.items in
    let two = map view c.push_all-2.new.list.items in
    let three = map view c.push_all-3.new.list.items in
    let none : zero ≡ [] = search rules in
    let is_one : one ≡ zero ++ map surveyed_object own = c.in_ok-push_all.ensures ∙ ap (λ ps. zero ++ map surveyed_object ps) c.own.ensures.value in
    let is_two : two ≡ one ++ map surveyed_object described = c.in_ok-push_all-2.ensures ∙ ap (λ ps. one ++ map surveyed_object ps) c.described.ensures.value in
    let is_three : three ≡ two ++ map surveyed_object led = c.in_ok-push_all-3.ensures ∙ ap (λ ps. two ++ map surveyed_object ps) c.led.ensures.value in
    let all : three ≡ map surveyed_object (surveyed survey) = three_lists surveyed_object own described led zero one two three none is_one is_two is_three in
    (surveyed survey, c.in_ok-survey.ensures.value, ap Ok (view-Array c.push_all-3.new.list ∙ ap list_of all))
