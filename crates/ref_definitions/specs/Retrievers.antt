-- The retrievers that come with the library, by what they may return and refuse, and those whose answers are known.
use Rattle.std.specs.Prelude.{◌≡◌, ℕ, ⊤, List, codes, Some, None, Result, Ok, Err, option_map}
use Rattle.serde_json.specs.Data.{Data}
use Rattle.ref_draft.specs.declared.draft.Draft.{Draft}
use Rattle.ref_definitions.specs.World.{Layer, World}
use Rattle.ref_definitions.specs.Fault.{Fault}
use Rattle.ref_definitions.specs.Resources.{last_under}
use Rattle.ref_definitions.specs.Preparing.{Retriever, Given, IsOutcome}

-- it always refuses
abbrev pub default_retriever : Retriever
default_retriever = record {
  may_answer = λ uri tree. ⊥;
  may_refuse = λ uri text. text ≡ codes "Default retriever does not fetch resources";
}

-- it returns the last value under a URI, and refuses the URIs that it lacks
abbrev pub map_retriever : List (List ℕ × Data) → Retriever
map_retriever pairs = record {
  may_answer = λ uri tree. option_map (λ e. e.1) (last_under uri pairs) ≡ Some tree;
  may_refuse =
      λ uri text. (last_under uri pairs ≡ None) × (text ≡ codes "no document under this URI");
}

-- it may return any tree for a URI, and may refuse it with any text
abbrev pub any_retriever : Retriever
any_retriever = record { may_answer = λ uri tree. ⊤; may_refuse = λ uri text. ⊤ }

-- it returns a URI with a tree or refuses it with a text, as a function says
abbrev pub function_retriever : (List ℕ → Result Data (List ℕ)) → Retriever
function_retriever answers = record {
  may_answer = λ uri tree. answers uri ≡ Ok tree;
  may_refuse = λ uri text. answers uri ≡ Err text;
}

-- there is one outcome at most
abbrev pub HasOneOutcome : Given → Type 0
HasOneOutcome given =
    (one other : Result Layer Fault) → IsOutcome given one → IsOutcome given other → one ≡ other

-- preparing with the retriever has one outcome at most, whatever documents, parents, draft and limit it is given
abbrev pub GivesOneOutcome : Retriever → Type 0
GivesOneOutcome retriever =
    (limit : ℕ) (draft : Draft) (parents : World) (documents : Layer)
    → HasOneOutcome
    (record {
      retriever = retriever;
      limit = limit;
      draft = draft;
      parents = parents;
      documents = documents;
    })
