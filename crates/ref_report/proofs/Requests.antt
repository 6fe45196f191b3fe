-- What is known of a request that was read.
use Rattle.std.proofs.Common.{◌≡◌, Bool, true, false, Result, Ok, Err, ok_or, codes, cond, refl, ap, ◌∙◌}
use Rattle.serde_json.specs.Data.{Data}
use Rattle.serde_json.specs.Find.{get, as_object}
use Rattle.serde_json.specs.Written.{has_float}
use Rattle.ref_definitions.specs.Results.{◌>>=◌}
use Rattle.ref_report.specs.declared.request.BadRequest.TheVariants as bad
use Rattle.ref_report.specs.Request.{Request, documents_of, base_of, steps_of, remote_of, draft_of, limit_of, lint_of, required_field, optional, are_fields, fields_of, request_of}

bind_is_ok : {A B E : Type 0} (r : Result A E) (f : A → Result B E) (y : B) → (r >>= f) ≡ Ok y → (x : A) × (r ≡ Ok x) × (f x ≡ Ok y)
bind_is_ok (Ok x) f y h = (x, refl, h)
bind_is_ok (Err e) f y h = absurd (cc)

ok_is : {A E : Type 0} (x y : A) → ◌≡◌ {A = Result A E} (Ok x) (Ok y) → x ≡ y
ok_is x y h = cc

-- the fields that hold documents are in the tree
pub record AreRead (d : Data) (r : Request) : Type 0 where
  pub documents : required_field bad.Documents documents_of (get (codes "documents") d) ≡ Ok r.documents
  pub remote : optional bad.Remote remote_of (get (codes "remote") d) ≡ Ok r.remote
  pub meta : optional bad.Meta documents_of (get (codes "meta") d) ≡ Ok r.meta

fields-read : (d : Data) (r : Request) → fields_of d ≡ Ok r → AreRead d r
unfolding fields_of
fields-read d r is =
    let documents = bind_is_ok (required_field bad.Documents documents_of (get (codes "documents") d)) _ r is in
    let base = bind_is_ok (required_field bad.Base base_of (get (codes "base") d)) _ r documents.2 in
    let steps = bind_is_ok (required_field bad.Steps steps_of (get (codes "steps") d)) _ r base.2 in
    let remote = bind_is_ok (optional bad.Remote remote_of (get (codes "remote") d)) _ r steps.2 in
    let meta = bind_is_ok (optional bad.Meta documents_of (get (codes "meta") d)) _ r remote.2 in
    let draft = bind_is_ok (optional bad.Draft draft_of (get (codes "draft") d)) _ r meta.2 in
    let limit = bind_is_ok (optional bad.Limit limit_of (get (codes "limit") d)) _ r draft.2 in
    let lint = bind_is_ok (optional bad.Lint lint_of (get (codes "lint") d)) _ r limit.2 in
    let same = ok_is _ r lint.2 in
    record {
      documents = documents.1 ∙ ap (λ (x : Request). Ok x.documents) same;
      remote = remote.1 ∙ ap (λ (x : Request). Ok x.remote) same;
      meta = meta.1 ∙ ap (λ (x : Request). Ok x.meta) same;
    }

read_by : (b c : Bool) (d : Data) (r : Request) → has_float d ≡ b → cond b (Err bad.Float) (cond c (fields_of d) (Err bad.UnknownField)) ≡ Ok r → (has_float d ≡ false) × (fields_of d ≡ Ok r)
read_by true c d r h is = absurd (cc)
read_by false true d r h is = (h, is)
read_by false false d r h is = absurd (cc)

-- the tree has no float, and its fields are the request's
pub request-read : (d : Data) (r : Request) → request_of d ≡ Ok r → (has_float d ≡ false) × AreRead d r
unfolding request_of
request-read d r is =
    let members = bind_is_ok (ok_or (as_object d) bad.NotAnObject) _ r is in
    let read = read_by (has_float d) (are_fields members.0) d r refl members.2 in
    (read.0, fields-read d r read.1)
