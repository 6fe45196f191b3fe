use Rattle.std.proofs.Common.{◌≡◌, ◌∙◌, ℕ, List, drop, is_some, Some, ap, sym, subst}
use Rattle.serde_json.specs.View.{view}
use Rattle.ref_yaml.specs.Core.{parts_of, after_sign, is_one_of, infinite_words, no_number_words, is_decimal, is_in_radix, digits_number}
use Rattle.ref_yaml.proofs.Numbers.{decimal_is, octal_is, hexadecimal_is, no_number}
use Rattle.ref_yaml.proofs.core_schema.number.Goals as goal

pub returns-in-Some-clause-value : goal.returns-in-Some-clause-value
returns-in-Some-clause-value c =
    let bytes = c.as_bytes-bytes.ensures.value in
    decimal_is c.args.text.now (view c.in_ok-decimal_value.field-0)
    (ap (λ t. is_decimal (parts_of t)) (sym bytes) ∙ sym c.decimal_of.ensures.is_one ∙ ap is_some c.in-Some.is)
    (c.in_ok-decimal_value.ensures.value (c.in-Some.ensures.parts ∙ ap parts_of bytes))

pub returns-then-is_in_radix-clause-value : goal.returns-then-is_in_radix-clause-value
returns-then-is_in_radix-clause-value c =
    let bytes = c.as_bytes-bytes.ensures.value in
    let v = view c.in_ok-radix_value.field-0 in
    octal_is c.args.text.now v
    (ap (λ t. is_decimal (parts_of t)) (sym bytes) ∙ sym c.decimal_of.ensures.is_one ∙ ap is_some c.in_default.is)
    (ap (is_one_of infinite_words) (sym (c.after_sign.ensures.value ∙ ap after_sign bytes)) ∙ sym c.is_infinite.ensures.value ∙ c.if-is_infinite.false)
    (ap (is_one_of no_number_words) (sym bytes) ∙ sym c.is_no_number.ensures.value ∙ c.if-is_no_number.false)
    (ap (is_in_radix 111 8) (sym bytes) ∙ sym c.is_in_radix.ensures.value ∙ c.if-is_in_radix.true)
    (subst (λ (t : List ℕ). digits_number 8 (drop 2 t) ≡ Some v) bytes c.in_ok-radix_value.ensures.value)

pub returns-then-is_in_radix-2-clause-value : goal.returns-then-is_in_radix-2-clause-value
returns-then-is_in_radix-2-clause-value c =
    let bytes = c.as_bytes-bytes.ensures.value in
    let v = view c.in_ok-radix_value-2.field-0 in
    hexadecimal_is c.args.text.now v
    (ap (λ t. is_decimal (parts_of t)) (sym bytes) ∙ sym c.decimal_of.ensures.is_one ∙ ap is_some c.in_default.is)
    (ap (is_one_of infinite_words) (sym (c.after_sign.ensures.value ∙ ap after_sign bytes)) ∙ sym c.is_infinite.ensures.value ∙ c.if-is_infinite.false)
    (ap (is_one_of no_number_words) (sym bytes) ∙ sym c.is_no_number.ensures.value ∙ c.if-is_no_number.false)
    (ap (is_in_radix 111 8) (sym bytes) ∙ sym c.is_in_radix.ensures.value ∙ c.if-is_in_radix.false)
    (ap (is_in_radix 120 16) (sym bytes) ∙ sym c.is_in_radix-2.ensures.value ∙ c.if-is_in_radix-2.true)
    (subst (λ (t : List ℕ). digits_number 16 (drop 2 t) ≡ Some v) bytes c.in_ok-radix_value-2.ensures.value)

pub returns-clause-value : goal.returns-clause-value
returns-clause-value c =
    let bytes = c.as_bytes-bytes.ensures.value in
    no_number c.args.text.now
    (ap (λ t. is_decimal (parts_of t)) (sym bytes) ∙ sym c.decimal_of.ensures.is_one ∙ ap is_some c.in_default.is)
    (ap (is_one_of infinite_words) (sym (c.after_sign.ensures.value ∙ ap after_sign bytes)) ∙ sym c.is_infinite.ensures.value ∙ c.if-is_infinite.false)
    (ap (is_one_of no_number_words) (sym bytes) ∙ sym c.is_no_number.ensures.value ∙ c.if-is_no_number.false)
    (ap (is_in_radix 111 8) (sym bytes) ∙ sym c.is_in_radix.ensures.value ∙ c.if-is_in_radix.false)
    (ap (is_in_radix 120 16) (sym bytes) ∙ sym c.is_in_radix-2.ensures.value ∙ c.if-is_in_radix-2.false)
