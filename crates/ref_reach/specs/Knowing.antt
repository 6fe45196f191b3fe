-- What is known of the documents of the program.
use Rattle.std.specs.Prelude.{ℕ, List, map}
use Rattle.serde_json.specs.View.{view}
use Rattle.ref_paths.specs.Path.{Part}
use Rattle.ref_reach.specs.declared.described.Part as rust_part
use Rattle.ref_reach.specs.declared.described.Documents as rust_documents
use Rattle.ref_reach.specs.Leading.{Known}
use Rattle.ref_reach.specs.Views.{place_of}

-- a part of a document
abbrev pub part_in : rust_part.Part → ℕ × List Part
part_in p = (p.document, p.path)

-- what is known of documents
abbrev pub known_of : rust_documents.Documents → Known
known_of d =
    record {
      uris = map (λ u. u.value) d.uris.items;
      trees = map (λ v. view v.now) d.values.items;
      own = map place_of d.own.items;
      parts = map part_in d.parts.items;
      layer = d.index;
    }
