use Rattle.ref_positions.proofs.Json.{is_scalar_at}
use Rattle.ref_positions.proofs.walk.Walk.pass_token.Goals as goal

pub returns-in-Key : goal.returns-in-Key
returns-in-Key c = record { passes = λ before ps lt w. rw c.in-Key.is (c.pass_key.ensures.passes before ps lt w) }

pub returns-in-EndObject : goal.returns-in-EndObject
returns-in-EndObject c = record { passes = λ before ps lt w. rw c.in-EndObject.is (c.pass_end.ensures.passes c.args.places.now c.args.number before ps lt w) }

pub returns-in-EndArray : goal.returns-in-EndArray
returns-in-EndArray c = record { passes = λ before ps lt w. rw c.in-EndArray.is (c.pass_end-in-EndArray.ensures.passes c.args.places.now c.args.number before ps lt w) }

pub returns-in-BeginObject : goal.returns-in-BeginObject
returns-in-BeginObject c = record { passes = rw c.in-BeginObject.is c.pass_object.ensures.passes }

pub returns-in-BeginArray : goal.returns-in-BeginArray
returns-in-BeginArray c = record { passes = rw c.in-BeginArray.is c.pass_array.ensures.passes }

pub returns-in_default : goal.returns-in_default
returns-in_default c = record {
  passes = λ before ps lt w.
      rw (is_scalar_at c.args.token.now c.args.start c.in_default.not-BeginObject c.in_default.not-EndObject c.in_default.not-BeginArray c.in_default.not-EndArray c.in_default.not-Key)
      (c.pass_scalar.ensures.passes before ps lt w);
}
