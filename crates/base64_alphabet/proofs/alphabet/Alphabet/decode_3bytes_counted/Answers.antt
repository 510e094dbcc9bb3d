use Rattle.std.proofs.Common.{◌≡◌, to_z, of_z, pos, refl, arith, slice_index}
use Rattle.std.proofs.lemmas.Int.{ints}
use mir.Syntax.{w16}
use Rattle.base64_alphabet.proofs.TableLemmas.{four_answer, sextet_is, all_in_at}
use Rattle.base64_alphabet.proofs.alphabet.Alphabet.decode_3bytes_counted.Goals as goal

pub returns-clause-answer : goal.returns-clause-answer
returns-clause-answer g c =
    let r : to_z w16 (of_z w16 c.group_3bytes.result) ≡ c.group_3bytes.result = omega (arith, ints) in
    let e0 : to_z w16 (of_z w16 c.decode_6bits_counted-first.result) ≡ c.decode_6bits_counted-first.result = omega (arith, ints) in
    let e1 : to_z w16 (of_z w16 c.decode_6bits_counted-second.result) ≡ c.decode_6bits_counted-second.result = omega (arith, ints) in
    let e2 : to_z w16 (of_z w16 c.decode_6bits_counted-third.result) ≡ c.decode_6bits_counted-third.result = omega (arith, ints) in
    let e3 : to_z w16 (of_z w16 c.decode_6bits_counted-fourth.result) ≡ c.decode_6bits_counted-fourth.result = omega (arith, ints) in
    rw (
      r,
      c.group_3bytes.ensures.answer,
      e0,
      c.decode_6bits_counted-first.ensures.place,
      e1,
      c.decode_6bits_counted-second.ensures.place,
      e2,
      c.decode_6bits_counted-third.ensures.place,
      e3,
      c.decode_6bits_counted-fourth.ensures.place,
    )
    (four_answer g.Self.Alphabet.form.table c.args.src.now c.requires.four)

pub returns-clause-written : goal.returns-clause-written
returns-clause-written g c h =
    let e0 : to_z w16 (of_z w16 c.decode_6bits_counted-first.result) ≡ c.decode_6bits_counted-first.result = omega (arith, ints) in
    let e1 : to_z w16 (of_z w16 c.decode_6bits_counted-second.result) ≡ c.decode_6bits_counted-second.result = omega (arith, ints) in
    let e2 : to_z w16 (of_z w16 c.decode_6bits_counted-third.result) ≡ c.decode_6bits_counted-third.result = omega (arith, ints) in
    let e3 : to_z w16 (of_z w16 c.decode_6bits_counted-fourth.result) ≡ c.decode_6bits_counted-fourth.result = omega (arith, ints) in
    let zero : c.group_3bytes.result ≡ pos 0 =
    rw (
      c.group_3bytes.ensures.answer,
      e0,
      c.decode_6bits_counted-first.ensures.place,
      e1,
      c.decode_6bits_counted-second.ensures.place,
      e2,
      c.decode_6bits_counted-third.ensures.place,
      e3,
      c.decode_6bits_counted-fourth.ensures.place,
      four_answer g.Self.Alphabet.form.table c.args.src.now
          c.requires.four,
      h,
    ) refl in
    let s0 = sextet_is g.Self.Alphabet.form.table (slice_index c.args.src.now 0) (all_in_at g.Self.Alphabet.form.table c.args.src.now h 0 (omega arith)) in
    let s1 = sextet_is g.Self.Alphabet.form.table (slice_index c.args.src.now 1) (all_in_at g.Self.Alphabet.form.table c.args.src.now h 1 (omega arith)) in
    let s2 = sextet_is g.Self.Alphabet.form.table (slice_index c.args.src.now 2) (all_in_at g.Self.Alphabet.form.table c.args.src.now h 2 (omega arith)) in
    let s3 = sextet_is g.Self.Alphabet.form.table (slice_index c.args.src.now 3) (all_in_at g.Self.Alphabet.form.table c.args.src.now h 3 (omega arith)) in
    rw (
      c.group_3bytes.ensures.written zero,
      e0,
      c.decode_6bits_counted-first.ensures.place,
      e1,
      c.decode_6bits_counted-second.ensures.place,
      e2,
      c.decode_6bits_counted-third.ensures.place,
      e3,
      c.decode_6bits_counted-fourth.ensures.place,
      s0,
      s1,
      s2,
      s3,
    )
