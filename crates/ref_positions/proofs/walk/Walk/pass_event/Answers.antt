use Rattle.std.proofs.Common.{refl}
use Rattle.ref_positions.specs.Parts.{close, object, array, scalar}
use Rattle.ref_yaml.specs.declared.event.Kind.TheVariants.{BeginArray, EndArray, BeginObject, EndObject, Alias}
use Rattle.ref_positions.proofs.Tokens.{takes}
use Rattle.ref_positions.proofs.walk.Walk.pass_event.Goals as goal

pub returns-in-EndObject : goal.returns-in-EndObject
returns-in-EndObject c = record {
  takes = λ _. takes c.args.document.now.text.now c.args.places.now c.args.self.now c.pass_end.new.self c.args.number c.args.event.now close EndObject c.in-EndObject.is (λ before. refl)
      (λ before ps lt w. c.pass_end.ensures.passes c.args.places.now c.args.number before ps lt w);
  stops = λ no. absurd (cc);
}

pub returns-in-EndArray : goal.returns-in-EndArray
returns-in-EndArray c = record {
  takes = λ _. takes c.args.document.now.text.now c.args.places.now c.args.self.now c.pass_end-in-EndArray.new.self c.args.number c.args.event.now close EndArray c.in-EndArray.is (λ before. refl)
      (λ before ps lt w. c.pass_end-in-EndArray.ensures.passes c.args.places.now c.args.number before ps lt w);
  stops = λ no. absurd (cc);
}

pub returns-in_ok-pass_object-in-BeginObject : goal.returns-in_ok-pass_object-in-BeginObject
returns-in_ok-pass_object-in-BeginObject c = record { takes = λ _. takes c.args.document.now.text.now c.args.places.now c.args.self.now c.pass_object.new.self c.args.number c.args.event.now (object c.args.event.now.start) BeginObject c.in-BeginObject.is (λ before. refl) c.in_ok-pass_object-in-BeginObject.ensures.passes; stops = λ no. absurd (cc) }

pub returns-in_ok-pass_array-in-BeginArray : goal.returns-in_ok-pass_array-in-BeginArray
returns-in_ok-pass_array-in-BeginArray c = record { takes = λ _. takes c.args.document.now.text.now c.args.places.now c.args.self.now c.pass_array.new.self c.args.number c.args.event.now (array c.args.event.now.start) BeginArray c.in-BeginArray.is (λ before. refl) c.in_ok-pass_array-in-BeginArray.ensures.passes; stops = λ no. absurd (cc) }

pub returns-in-Alias : goal.returns-in-Alias
returns-in-Alias c = record { takes = λ _. takes c.args.document.now.text.now c.args.places.now c.args.self.now c.pass_scalar.new.self c.args.number c.args.event.now (scalar c.args.event.now.start) Alias c.in-Alias.is (λ before. refl) c.pass_scalar.ensures.passes; stops = λ no. absurd (cc) }
