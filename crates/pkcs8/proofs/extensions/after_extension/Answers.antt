use Rattle.std.proofs.Common.{◌≡◌, ◌≤◌, ◌∙◌, arith}
use Rattle.der_core.specs.Der.{IsValue}
use Rattle.der_core.specs.SequenceLaws.{unless}
use Rattle.pkcs8.proofs.Fields.{first_field, with_field, no_field, shorter}
use Rattle.pkcs8.proofs.extensions.after_extension.Goals as goal

pub returns-in_default-clause-none : goal.returns-in_default-clause-none
returns-in_default-clause-none c = no_field c.args.bytes.now (rw c.new-at.ensures at c.in_default.ensures.none)

pub returns-then-tag-lt160-clause-none : goal.returns-then-tag-lt160-clause-none
returns-then-tag-lt160-clause-none c = λ e.
    let f = first_field c.args.bytes.now c.in-Ok.field.tag.byte c.in-Ok.field.value.now c.read_value.new.self c.in-Ok.field.tag.valid
    (rw c.new-at.ensures at c.in-Ok.ensures.value, c.in-Ok.ensures.fits) e in
    let low : 160 ≤ c.in-Ok.field.tag.byte = f.low in
    let byte : c.byte-tag.result ≡ c.in-Ok.field.tag.byte = c.byte-tag.ensures ∙ c.tag.ensures in
    absurd (omega arith)

pub returns-then-tag-gt190-clause-none : goal.returns-then-tag-gt190-clause-none
returns-then-tag-gt190-clause-none c = λ e.
    let f = first_field c.args.bytes.now c.in-Ok.field.tag.byte c.in-Ok.field.value.now c.read_value.new.self c.in-Ok.field.tag.valid
    (rw c.new-at.ensures at c.in-Ok.ensures.value, c.in-Ok.ensures.fits) e in
    let high : c.in-Ok.field.tag.byte ≤ 190 = f.high in
    let byte : c.byte-tag.result ≡ c.in-Ok.field.tag.byte = c.byte-tag.ensures ∙ c.tag.ensures in
    absurd (omega arith)

pub returns-then-not-is_one_value-clause-none : goal.returns-then-not-is_one_value-clause-none
returns-then-not-is_one_value-clause-none c = λ e.
    let f = first_field c.args.bytes.now c.in-Ok.field.tag.byte c.in-Ok.field.value.now c.read_value.new.self c.in-Ok.field.tag.valid
    (rw c.new-at.ensures at c.in-Ok.ensures.value, c.in-Ok.ensures.fits) e in
    let one : IsValue c.value.result.now = rw c.value.ensures f.one in
    absurd (unless _ c.is_one_value.ensures c.if-not-is_one_value.true one)

pub returns-clause-shorter : goal.returns-clause-shorter
returns-clause-shorter c =
    rw c.rest.ensures (shorter c.args.bytes.now c.in-Ok.field.tag.byte c.in-Ok.field.value.now c.read_value.new.self
    (rw c.new-at.ensures at c.in-Ok.ensures.value))

pub returns-clause-same : goal.returns-clause-same
returns-clause-same c =
    let byte : c.byte-tag.result ≡ c.in-Ok.field.tag.byte = c.byte-tag.ensures ∙ c.tag.ensures in
    let one : IsValue c.value.result.now = grind (arith, c.if-not-is_one_value.ensures, c.is_one_value.ensures) in
    let one' : IsValue c.in-Ok.field.value.now = rw c.value.ensures at one in
    rw c.rest.ensures (
      with_field c.args.bytes.now c.in-Ok.field.tag.byte c.in-Ok.field.value.now c.read_value.new.self c.in-Ok.field.tag.valid
          (rw c.new-at.ensures at c.in-Ok.ensures.value, c.in-Ok.ensures.fits) (omega arith) (omega arith) one',
      λ e. (first_field c.args.bytes.now c.in-Ok.field.tag.byte c.in-Ok.field.value.now c.read_value.new.self c.in-Ok.field.tag.valid
          (rw c.new-at.ensures at c.in-Ok.ensures.value, c.in-Ok.ensures.fits) e).next,
    )
