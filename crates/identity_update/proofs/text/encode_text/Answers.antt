use Rattle.std.proofs.Common.{◌≡◌, ◌≤◌, ◌<◌, inl, inr, false, true, length, arith, rules, string_bytes}
use Rattle.std.proofs.lemmas.Grind.{common_steps, get_or_default_zero}
use Rattle.base64ct.specs.Canonical.{IsBytes}
use Rattle.base64ct.specs.Encoder.{whole_groups}
use Rattle.base64ct.specs.Wrapping.{wrapped_len}
use Rattle.identity_update.specs.Text.{text_of}
use Rattle.identity_update.proofs.WrappingLaws.{characters_are, groups_fit, room_fits, room_some, text_writes}
use Rattle.identity_update.proofs.text.encode_text.Goals as goal

pub unreachable-requires : goal.unreachable-requires
unreachable-requires c =
    let low : 0 < c.args.width = omega (arith, c.if-width-lt4.false) in
    let is = characters_are c.args.bytes.now c.encoded_len.result c.requires.small c.encoded_len.ensures in
    let fits = rw c.in_default.is at c.wrapped_len.ensures.fits in
    let bad : false ≡ true = fits.1 (room_fits c.args.width c.args.ending c.args.bytes.now c.encoded_len.result low c.requires.small is) in
    cc

pub returns-in_err-encoder-clause-refusal : goal.returns-in_err-encoder-clause-refusal
returns-in_err-encoder-clause-refusal c =
    let is = characters_are c.args.bytes.now c.encoded_len.result c.requires.small c.encoded_len.ensures in
    let some = room_some c.args.width c.args.ending c.args.bytes.now c.encoded_len.result is c.requires.some in
    let room : c.in-Some.room ≡ wrapped_len c.args.width c.args.ending c.encoded_len.result = c.in-Some.ensures.len in
    let size : length c.deref_mut.result.now ≡ c.in-Some.room = grind (arith, common_steps) in
    let bad : ⊥ = elim c.in_err-encoder.ensures.err.1 [
      | inl narrow ↦ omega (arith, c.if-width-lt4.false)
      | inr empty ↦ omega
          (arith, empty, size, room, some)
    ] in
    absurd bad

pub returns-in_err-encode-clause-refusal : goal.returns-in_err-encode-clause-refusal
returns-in_err-encode-clause-refusal c =
    let low : 0 < c.args.width = omega (arith, c.if-width-lt4.false) in
    let is = characters_are c.args.bytes.now c.encoded_len.result c.requires.small c.encoded_len.ensures in
    let room : c.in-Some.room ≡ wrapped_len c.args.width c.args.ending c.encoded_len.result = c.in-Some.ensures.len in
    let size : length c.deref_mut.result.now ≡ c.in-Some.room = grind (arith, common_steps) in
    let part = groups_fit c.args.width c.args.ending c.args.bytes.now c.encoded_len.result low is in
    let le : length (text_of c.args.width c.args.ending (whole_groups c.args.bytes.now)) ≤ length c.deref_mut.result.now = omega (arith, part, size, room) in
    let fits = rw c.in_ok-encoder.ensures.ok at c.in_err-encode.ensures.fits in
    let bad : false ≡ true = fits.1 le in
    let none : ⊥ = cc in
    absurd none

pub returns-clause-writes : goal.returns-clause-writes
returns-clause-writes c =
    let bytes : IsBytes c.args.bytes.now = λ k d lt. rw (get_or_default_zero c.args.bytes.now k d lt) ((c.type_inv.bytes k).fits) in
    let is : string_bytes c.in_ok-text.text ≡ text_of c.args.width c.args.ending c.args.bytes.now = first_of (search rules, grind (arith, common_steps)) in
    text_writes c.args.width c.args.ending c.args.bytes.now (string_bytes c.in_ok-text.text) c.wrapped_encoding_is_read_back.ensures c.if-width-lt4.false
    c.requires.some bytes is
