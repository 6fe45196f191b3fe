-- What contracts see of the crate's types.
use Rattle.std.specs.Prelude.{◌≡◌, ⊤, option_map}
use Rattle.serde_json.specs.View.{view}
use Rattle.ref_uri.specs.Errors.{SaysRefusal}
use Rattle.ref_error.specs.Errors.{SaysFault}
use Rattle.ref_reach.specs.declared.documents.Source as rust_source
use Rattle.ref_reach.specs.declared.place.Place as rust_place
use Rattle.ref_descriptions.specs.Views.{path_under}
use Rattle.ref_reach.specs.declared.finding.Finding as rust_finding
use Rattle.ref_reach.specs.declared.finding.Problem as rust_problem
use Rattle.ref_reach.specs.declared.finding.Problem.TheVariants as problem
use Rattle.ref_reach.specs.Places.{Source, Place}
use Rattle.ref_reach.specs.Reached.{Finding}
use Rattle.ref_reach.specs.Leading.{Problem, NotAText, InvalidUri, MissingDocument, LeadsNowhere, WrongKind, Unchecked}

-- a document
abbrev pub source_of : rust_source.Source → Source
source_of s = record { uri = s.uri; tree = view s.value.now }

-- a place
abbrev pub place_of : rust_place.Place → Place
place_of p =
    record {
      document = p.document;
      path = p.path;
      value = view p.value.now;
      reading = p.reading;
      base = p.base.value;
      is_identified = p.is_identified;
    }

-- what the program says is wrong is what is wrong
abbrev pub IsProblemOf : rust_problem.Problem → Problem → Type 0
IsProblemOf problem.NotAText NotAText = ⊤
IsProblemOf (problem.InvalidUri error) (InvalidUri refusal) = SaysRefusal error refusal
IsProblemOf (problem.MissingDocument uri) (MissingDocument text) = uri.value ≡ text
IsProblemOf (problem.LeadsNowhere uri error) (LeadsNowhere text fault) =
    (uri.value ≡ text) × SaysFault error fault
IsProblemOf (problem.WrongKind uri is wanted) (WrongKind text kind needed) =
    (uri.value ≡ text) × (is ≡ kind) × (wanted ≡ needed)
IsProblemOf (problem.Unchecked uri) (Unchecked text) = uri.value ≡ text
IsProblemOf other problem = ⊥

-- what the program found is what was found
abbrev pub IsFindingOf : rust_finding.Finding → Finding → Type 0
IsFindingOf f g =
    (f.place ≡ g.place) × (path_under f.under ≡ g.within) × (f.keyword.now ≡ g.keyword)
    × (option_map (λ t. t.now) f.text ≡ g.text) × IsProblemOf f.problem g.problem
