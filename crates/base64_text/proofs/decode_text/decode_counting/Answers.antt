use Rattle.std.proofs.Common.{◌≡◌, ℕ, ◌+◌, ◌-◌, ◌*◌, ◌/◌, ◌%◌, ◌≤◌, Bool, true, length, take, drop, slice_range, arith, refl, ap, sym, ◌∙◌, inr}
use Rattle.std.proofs.Common.{length-drop, rules}
use Rattle.std.proofs.lemmas.Bool.{both_ways, eqb-true, eqb-false}
use Rattle.std.proofs.lemmas.Grind.{common_steps}
use Rattle.std.proofs.lemmas.List.{drop-take, length-take-le}
use Rattle.base64_alphabet.specs.Encoding.{encoding_of}
use Rattle.base64_alphabet.proofs.TableLemmas.{facts}
use Rattle.base64_text.specs.Canonical.{HasWholeBlocks, decoded_len, unpadded_len, is_clean, loose_bytes}
use Rattle.base64_text.specs.Counts.{loose_count, encode_count}
use Rattle.base64_text.proofs.CountLemmas.{lengths_hold, count_clean}
use Rattle.base64_text.proofs.EncodingLemmas.{empty_value}
use Rattle.base64_text.proofs.RefusalLemmas.{no_text, no_blocks_text}
use Rattle.base64_text.proofs.LooseLemmas.{is_text, is_loose, text_from_last, none_from_last, length-loose_bytes}
use Rattle.base64_text.proofs.WholeLemmas.{empty_text}
use Rattle.base64_text.proofs.decode_text.decode_counting.Goals as goal

pub returns-then-not-has_whole_blocks-clause-answers : goal.returns-then-not-has_whole_blocks-clause-answers
returns-then-not-has_whole_blocks-clause-answers g c = record {
  within = search rules;
  ok = search rules;
  bytes = search rules;
  value = search rules;
  accepted = λ b bytes text fit. let not_whole = c.has_whole_blocks.ensures.no c.if-not-has_whole_blocks.true in
      no_blocks_text g.E.Alphabet.form.end g.E.Alphabet.form.table g.E.Alphabet.form.padded c.args.src.now b
      (g.met.E.Alphabet.tells_padding ∙ sym c.PADDED.ensures ∙ not_whole.0) not_whole.1 text;
  rest = search rules;
  behind = search rules;
  untouched = search rules;
  err = search rules;
}

pub returns-then-dst-size-clause-answers : goal.returns-then-dst-size-clause-answers
returns-then-dst-size-clause-answers g c = record {
  within = search rules;
  ok = search rules;
  bytes = search rules;
  value = search rules;
  accepted = λ b bytes text fit. let u : c.count_unpadded-u.result ≡ unpadded_len g.E.Alphabet.form.padded c.args.src.now = c.count_unpadded-u.ensures.value
      ∙ ap (λ (p : Bool). unpadded_len p c.args.src.now) (c.PADDED-2.ensures ∙ sym g.met.E.Alphabet.tells_padding) in
      let is = is_text g.E.Alphabet.form.end g.E.Alphabet.form.table g.E.Alphabet.form.padded c.args.src.now b
      (facts g.E.Alphabet.form.table g.met.E.Alphabet.lawful) bytes text in
      let n : length b ≡ decoded_len c.count_unpadded-u.result = sym (ap length is.loose)
      ∙ length-loose_bytes g.E.Alphabet.form.end g.E.Alphabet.form.table c.args.src.now g.E.Alphabet.form.padded ∙ ap decoded_len (sym u) in
      let short = c.if-dst-size.true in
      omega arith;
  rest = search rules;
  behind = search rules;
  untouched = search rules;
  err = search rules;
}

pub returns-then-not-decode_loose-clause-answers : goal.returns-then-not-decode_loose-clause-answers
returns-then-not-decode_loose-clause-answers g c = record {
  within = search rules;
  ok = search rules;
  bytes = search rules;
  value = search rules;
  accepted = λ b bytes text fit. let is = is_text g.E.Alphabet.form.end g.E.Alphabet.form.table g.E.Alphabet.form.padded c.args.src.now b
      (facts g.E.Alphabet.form.table g.met.E.Alphabet.lawful) bytes text in
      both_ways _ (sym c.decode_loose.ensures.clean ∙ c.if-not-decode_loose.true) is.clean;
  rest = search rules;
  behind = search rules;
  untouched = search rules;
  err = let u : c.count_unpadded-u.result ≡ unpadded_len g.E.Alphabet.form.padded c.args.src.now = c.count_unpadded-u.ensures.value
      ∙ ap (λ (p : Bool). unpadded_len p c.args.src.now) (c.PADDED-2.ensures ∙ sym g.met.E.Alphabet.tells_padding) in
      let whole : HasWholeBlocks g.E.Alphabet.form.padded c.args.src.now = rw (g.met.E.Alphabet.tells_padding, ← c.PADDED.ensures)
      (c.has_whole_blocks.ensures.yes c.if-not-has_whole_blocks.false) in
      let room : decoded_len (unpadded_len g.E.Alphabet.form.padded c.args.src.now) ≤ length c.args.dst.now = rw (← u) c.if-dst-size.false in
      inr (
        whole,
        room,
        λ b bytes text. both_ways _ (sym c.decode_loose.ensures.clean ∙ c.if-not-decode_loose.true)
            (is_text g.E.Alphabet.form.end g.E.Alphabet.form.table g.E.Alphabet.form.padded c.args.src.now b
            (facts g.E.Alphabet.form.table g.met.E.Alphabet.lawful) bytes text).clean,
      );
}

pub returns-then-is_empty-clause-answers : goal.returns-then-is_empty-clause-answers
returns-then-is_empty-clause-answers g c = record {
  within = search rules;
  ok = empty_text g.E.Alphabet.form.end g.E.Alphabet.form.table c.args.src.now g.E.Alphabet.form.padded
      (eqb-true (length c.args.src.now) 0 (sym c.is_empty.ensures ∙ c.if-is_empty.true));
  bytes = search rules;
  value = λ b bytes text. sym (empty_value g.E.Alphabet.form.end g.E.Alphabet.form.table g.E.Alphabet.form.padded b
      (sym text ∙ no_text c.args.src.now (eqb-true (length c.args.src.now) 0 (sym c.is_empty.ensures ∙ c.if-is_empty.true))));
  accepted = λ b bytes text fit. sym (empty_value g.E.Alphabet.form.end g.E.Alphabet.form.table g.E.Alphabet.form.padded b
      (sym text ∙ no_text c.args.src.now (eqb-true (length c.args.src.now) 0 (sym c.is_empty.ensures ∙ c.if-is_empty.true))));
  rest = search rules;
  behind = search rules;
  untouched = search rules;
  err = search rules;
}

pub returns-then-not-is_encoding-clause-steps : goal.returns-then-not-is_encoding-clause-steps
returns-then-not-is_encoding-clause-steps g c = let u : c.count_unpadded-u.result
    ≡ unpadded_len g.E.Alphabet.form.padded c.args.src.now = c.count_unpadded-u.ensures.value
    ∙ ap (λ (p : Bool). unpadded_len p c.args.src.now) (c.PADDED-2.ensures ∙ sym g.met.E.Alphabet.tells_padding) in
    let whole : HasWholeBlocks g.E.Alphabet.form.padded c.args.src.now = rw (g.met.E.Alphabet.tells_padding, ← c.PADDED.ensures)
    (c.has_whole_blocks.ensures.yes c.if-not-has_whole_blocks.false) in
    let room : decoded_len (unpadded_len g.E.Alphabet.form.padded c.args.src.now) ≤ length c.args.dst.now = rw (← u) c.if-dst-size.false in
    let clean : is_clean g.E.Alphabet.form.table g.E.Alphabet.form.padded c.args.src.now ≡ true = sym c.decode_loose.ensures.clean
    ∙ c.if-not-decode_loose.false in
    let written : take (decoded_len c.count_unpadded-u.result) c.decode_loose.new.dst
    ≡ loose_bytes g.E.Alphabet.form c.args.src.now = c.decode_loose.ensures.written clean in
    let ne = eqb-false (length c.args.src.now) 0 (sym c.is_empty.ensures ∙ c.if-is_empty.false) in
    let l = is_loose g.E.Alphabet.form.end g.E.Alphabet.form.table c.args.src.now g.E.Alphabet.form.padded ((length c.args.src.now - 1) / 4) refl
    (omega (arith, ne)) whole
    clean in
    let size : ℕ = 3 * (c.count_unpadded-u.result / 4) + 3 * (c.count_unpadded-u.result % 4) / 4 in
    let within : 3 * ((length c.args.src.now - 1) / 4) ≤ decoded_len c.count_unpadded-u.result = rw u l.within in
    let at : 3 * ((length c.args.src.now - 1) / 4) + (decoded_len c.count_unpadded-u.result - 3 * ((length c.args.src.now - 1) / 4))
    ≡ decoded_len c.count_unpadded-u.result = omega arith in
    let last : take (decoded_len c.count_unpadded-u.result - 3 * ((length c.args.src.now - 1) / 4))
    (drop (3 * ((length c.args.src.now - 1) / 4)) c.decode_loose.new.dst)
    ≡ drop (3 * ((length c.args.src.now - 1) / 4)) (loose_bytes g.E.Alphabet.form c.args.src.now)
    = sym (drop-take (3 * ((length c.args.src.now - 1) / 4)) (decoded_len c.count_unpadded-u.result - 3 * ((length c.args.src.now - 1) / 4))
    c.decode_loose.new.dst) ∙ ap (λ n. drop (3 * ((length c.args.src.now - 1) / 4)) (take n c.decode_loose.new.dst)) at
    ∙ ap (drop (3 * ((length c.args.src.now - 1) / 4))) written in
    let block : slice_range c.args.src.now (4 * ((length c.args.src.now - 1) / 4)) (length c.args.src.now)
    ≡ drop (4 * ((length c.args.src.now - 1) / 4)) c.args.src.now = grind (arith, common_steps) in
    let kept = c.decode_loose.auto.dst in
    let few : length (take (decoded_len c.count_unpadded-u.result - 3 * ((length c.args.src.now - 1) / 4))
    (drop (3 * ((length c.args.src.now - 1) / 4)) c.decode_loose.new.dst))
    ≡ decoded_len c.count_unpadded-u.result - 3 * ((length c.args.src.now - 1) / 4)
    = length-take-le (decoded_len c.count_unpadded-u.result - 3 * ((length c.args.src.now - 1) / 4))
    (drop (3 * ((length c.args.src.now - 1) / 4)) c.decode_loose.new.dst)
    (let d = length-drop (3 * ((length c.args.src.now - 1) / 4)) c.decode_loose.new.dst in let r = c.if-dst-size.false in omega arith) in
    let k : length (take (decoded_len c.count_unpadded-u.result - 3 * ((length c.args.src.now - 1) / 4))
    (drop (3 * ((length c.args.src.now - 1) / 4)) c.decode_loose.new.dst))
    ≡ decoded_len (unpadded_len g.E.Alphabet.form.padded c.args.src.now) - 3 * ((length c.args.src.now - 1) / 4) = few
    ∙ ap (λ n. decoded_len n - 3 * ((length c.args.src.now - 1) / 4)) u in
    let count = count_clean g.E.Alphabet.form.table g.E.Alphabet.form.padded c.args.src.now
    (decoded_len (unpadded_len g.E.Alphabet.form.padded c.args.src.now) - 3 * ((length c.args.src.now - 1) / 4)) clean ne l.some l.few l.whole in
    let first : c.decode_loose.new.steps ≡ c.args.steps.now + loose_count (unpadded_len g.E.Alphabet.form.padded c.args.src.now) = c.decode_loose.ensures.steps
    ∙ ap (λ n. c.args.steps.now + loose_count n) u in
    let second : c.is_encoding.new.steps ≡ c.decode_loose.new.steps
    + encode_count g.E.Alphabet.form.padded (decoded_len (unpadded_len g.E.Alphabet.form.padded c.args.src.now) - 3 * ((length c.args.src.now - 1) / 4)) =
    c.is_encoding.ensures.steps ∙ ap (λ n. c.decode_loose.new.steps + encode_count g.E.Alphabet.form.padded n) k in
    rw (lengths_hold g.E.Alphabet.form.padded c.args.src.now (length c.args.dst.now) whole room, ← count, second, first) (omega arith)

pub returns-then-not-is_encoding-clause-answers : goal.returns-then-not-is_encoding-clause-answers
returns-then-not-is_encoding-clause-answers g c = record {
  within = search rules;
  ok = search rules;
  bytes = search rules;
  value = search rules;
  accepted = λ b bytes text fit. let u : c.count_unpadded-u.result ≡ unpadded_len g.E.Alphabet.form.padded c.args.src.now = c.count_unpadded-u.ensures.value
      ∙ ap (λ (p : Bool). unpadded_len p c.args.src.now) (c.PADDED-2.ensures ∙ sym g.met.E.Alphabet.tells_padding) in
      let whole : HasWholeBlocks g.E.Alphabet.form.padded c.args.src.now = rw (g.met.E.Alphabet.tells_padding, ← c.PADDED.ensures)
      (c.has_whole_blocks.ensures.yes c.if-not-has_whole_blocks.false) in
      let room : decoded_len (unpadded_len g.E.Alphabet.form.padded c.args.src.now) ≤ length c.args.dst.now = rw (← u) c.if-dst-size.false in
      let clean : is_clean g.E.Alphabet.form.table g.E.Alphabet.form.padded c.args.src.now ≡ true = sym c.decode_loose.ensures.clean
      ∙ c.if-not-decode_loose.false in
      let written : take (decoded_len c.count_unpadded-u.result) c.decode_loose.new.dst
      ≡ loose_bytes g.E.Alphabet.form c.args.src.now = c.decode_loose.ensures.written clean in
      let ne = eqb-false (length c.args.src.now) 0 (sym c.is_empty.ensures ∙ c.if-is_empty.false) in
      let l = is_loose g.E.Alphabet.form.end g.E.Alphabet.form.table c.args.src.now g.E.Alphabet.form.padded ((length c.args.src.now - 1) / 4) refl
      (omega (arith, ne)) whole
      clean in
      let size : ℕ = 3 * (c.count_unpadded-u.result / 4) + 3 * (c.count_unpadded-u.result % 4) / 4 in
      let within : 3 * ((length c.args.src.now - 1) / 4) ≤ decoded_len c.count_unpadded-u.result = rw u l.within in
      let at : 3 * ((length c.args.src.now - 1) / 4) + (decoded_len c.count_unpadded-u.result - 3 * ((length c.args.src.now - 1) / 4))
      ≡ decoded_len c.count_unpadded-u.result = omega arith in
      let last : take (decoded_len c.count_unpadded-u.result - 3 * ((length c.args.src.now - 1) / 4))
      (drop (3 * ((length c.args.src.now - 1) / 4)) c.decode_loose.new.dst)
      ≡ drop (3 * ((length c.args.src.now - 1) / 4)) (loose_bytes g.E.Alphabet.form c.args.src.now)
      = sym (drop-take (3 * ((length c.args.src.now - 1) / 4)) (decoded_len c.count_unpadded-u.result - 3 * ((length c.args.src.now - 1) / 4))
      c.decode_loose.new.dst) ∙ ap (λ n. drop (3 * ((length c.args.src.now - 1) / 4)) (take n c.decode_loose.new.dst)) at
      ∙ ap (drop (3 * ((length c.args.src.now - 1) / 4))) written in
      let block : slice_range c.args.src.now (4 * ((length c.args.src.now - 1) / 4)) (length c.args.src.now)
      ≡ drop (4 * ((length c.args.src.now - 1) / 4)) c.args.src.now = grind (arith, common_steps) in
      let differs : drop (4 * ((length c.args.src.now - 1) / 4)) c.args.src.now
      ≡ encoding_of g.E.Alphabet.form
      (take (decoded_len c.count_unpadded-u.result - 3 * ((length c.args.src.now - 1) / 4))
      (drop (3 * ((length c.args.src.now - 1) / 4)) c.decode_loose.new.dst)) → ⊥
      = λ e. both_ways _ c.if-not-is_encoding.true (c.is_encoding.ensures.same.1 (block ∙ e)) in
      let none = none_from_last g.E.Alphabet.form.end g.E.Alphabet.form.table c.args.src.now
      (take (decoded_len c.count_unpadded-u.result - 3 * ((length c.args.src.now - 1) / 4))
      (drop (3 * ((length c.args.src.now - 1) / 4)) c.decode_loose.new.dst)) g.E.Alphabet.form.padded ((length c.args.src.now - 1) / 4)
      (facts g.E.Alphabet.form.table g.met.E.Alphabet.lawful) refl (omega (arith, ne)) last differs in
      none b bytes text;
  rest = search rules;
  behind = search rules;
  untouched = search rules;
  err = let u : c.count_unpadded-u.result ≡ unpadded_len g.E.Alphabet.form.padded c.args.src.now = c.count_unpadded-u.ensures.value
      ∙ ap (λ (p : Bool). unpadded_len p c.args.src.now) (c.PADDED-2.ensures ∙ sym g.met.E.Alphabet.tells_padding) in
      let whole : HasWholeBlocks g.E.Alphabet.form.padded c.args.src.now = rw (g.met.E.Alphabet.tells_padding, ← c.PADDED.ensures)
      (c.has_whole_blocks.ensures.yes c.if-not-has_whole_blocks.false) in
      let room : decoded_len (unpadded_len g.E.Alphabet.form.padded c.args.src.now) ≤ length c.args.dst.now = rw (← u) c.if-dst-size.false in
      let clean : is_clean g.E.Alphabet.form.table g.E.Alphabet.form.padded c.args.src.now ≡ true = sym c.decode_loose.ensures.clean
      ∙ c.if-not-decode_loose.false in
      let written : take (decoded_len c.count_unpadded-u.result) c.decode_loose.new.dst
      ≡ loose_bytes g.E.Alphabet.form c.args.src.now = c.decode_loose.ensures.written clean in
      let ne = eqb-false (length c.args.src.now) 0 (sym c.is_empty.ensures ∙ c.if-is_empty.false) in
      let l = is_loose g.E.Alphabet.form.end g.E.Alphabet.form.table c.args.src.now g.E.Alphabet.form.padded ((length c.args.src.now - 1) / 4) refl
      (omega (arith, ne)) whole
      clean in
      let size : ℕ = 3 * (c.count_unpadded-u.result / 4) + 3 * (c.count_unpadded-u.result % 4) / 4 in
      let within : 3 * ((length c.args.src.now - 1) / 4) ≤ decoded_len c.count_unpadded-u.result = rw u l.within in
      let at : 3 * ((length c.args.src.now - 1) / 4) + (decoded_len c.count_unpadded-u.result - 3 * ((length c.args.src.now - 1) / 4))
      ≡ decoded_len c.count_unpadded-u.result = omega arith in
      let last : take (decoded_len c.count_unpadded-u.result - 3 * ((length c.args.src.now - 1) / 4))
      (drop (3 * ((length c.args.src.now - 1) / 4)) c.decode_loose.new.dst)
      ≡ drop (3 * ((length c.args.src.now - 1) / 4)) (loose_bytes g.E.Alphabet.form c.args.src.now)
      = sym (drop-take (3 * ((length c.args.src.now - 1) / 4)) (decoded_len c.count_unpadded-u.result - 3 * ((length c.args.src.now - 1) / 4))
      c.decode_loose.new.dst) ∙ ap (λ n. drop (3 * ((length c.args.src.now - 1) / 4)) (take n c.decode_loose.new.dst)) at
      ∙ ap (drop (3 * ((length c.args.src.now - 1) / 4))) written in
      let block : slice_range c.args.src.now (4 * ((length c.args.src.now - 1) / 4)) (length c.args.src.now)
      ≡ drop (4 * ((length c.args.src.now - 1) / 4)) c.args.src.now = grind (arith, common_steps) in
      let differs : drop (4 * ((length c.args.src.now - 1) / 4)) c.args.src.now
      ≡ encoding_of g.E.Alphabet.form
      (take (decoded_len c.count_unpadded-u.result - 3 * ((length c.args.src.now - 1) / 4))
      (drop (3 * ((length c.args.src.now - 1) / 4)) c.decode_loose.new.dst)) → ⊥
      = λ e. both_ways _ c.if-not-is_encoding.true (c.is_encoding.ensures.same.1 (block ∙ e)) in
      let none = none_from_last g.E.Alphabet.form.end g.E.Alphabet.form.table c.args.src.now
      (take (decoded_len c.count_unpadded-u.result - 3 * ((length c.args.src.now - 1) / 4))
      (drop (3 * ((length c.args.src.now - 1) / 4)) c.decode_loose.new.dst)) g.E.Alphabet.form.padded ((length c.args.src.now - 1) / 4)
      (facts g.E.Alphabet.form.table g.met.E.Alphabet.lawful) refl (omega (arith, ne)) last differs in
      inr (whole, room, none);
}

pub returns-clause-steps : goal.returns-clause-steps
returns-clause-steps g c = let u : c.count_unpadded-u.result ≡ unpadded_len g.E.Alphabet.form.padded c.args.src.now = c.count_unpadded-u.ensures.value
    ∙ ap (λ (p : Bool). unpadded_len p c.args.src.now) (c.PADDED-2.ensures ∙ sym g.met.E.Alphabet.tells_padding) in
    let whole : HasWholeBlocks g.E.Alphabet.form.padded c.args.src.now = rw (g.met.E.Alphabet.tells_padding, ← c.PADDED.ensures)
    (c.has_whole_blocks.ensures.yes c.if-not-has_whole_blocks.false) in
    let room : decoded_len (unpadded_len g.E.Alphabet.form.padded c.args.src.now) ≤ length c.args.dst.now = rw (← u) c.if-dst-size.false in
    let clean : is_clean g.E.Alphabet.form.table g.E.Alphabet.form.padded c.args.src.now ≡ true = sym c.decode_loose.ensures.clean
    ∙ c.if-not-decode_loose.false in
    let written : take (decoded_len c.count_unpadded-u.result) c.decode_loose.new.dst
    ≡ loose_bytes g.E.Alphabet.form c.args.src.now = c.decode_loose.ensures.written clean in
    let ne = eqb-false (length c.args.src.now) 0 (sym c.is_empty.ensures ∙ c.if-is_empty.false) in
    let l = is_loose g.E.Alphabet.form.end g.E.Alphabet.form.table c.args.src.now g.E.Alphabet.form.padded ((length c.args.src.now - 1) / 4) refl
    (omega (arith, ne)) whole
    clean in
    let size : ℕ = 3 * (c.count_unpadded-u.result / 4) + 3 * (c.count_unpadded-u.result % 4) / 4 in
    let within : 3 * ((length c.args.src.now - 1) / 4) ≤ decoded_len c.count_unpadded-u.result = rw u l.within in
    let at : 3 * ((length c.args.src.now - 1) / 4) + (decoded_len c.count_unpadded-u.result - 3 * ((length c.args.src.now - 1) / 4))
    ≡ decoded_len c.count_unpadded-u.result = omega arith in
    let last : take (decoded_len c.count_unpadded-u.result - 3 * ((length c.args.src.now - 1) / 4))
    (drop (3 * ((length c.args.src.now - 1) / 4)) c.decode_loose.new.dst)
    ≡ drop (3 * ((length c.args.src.now - 1) / 4)) (loose_bytes g.E.Alphabet.form c.args.src.now)
    = sym (drop-take (3 * ((length c.args.src.now - 1) / 4)) (decoded_len c.count_unpadded-u.result - 3 * ((length c.args.src.now - 1) / 4))
    c.decode_loose.new.dst) ∙ ap (λ n. drop (3 * ((length c.args.src.now - 1) / 4)) (take n c.decode_loose.new.dst)) at
    ∙ ap (drop (3 * ((length c.args.src.now - 1) / 4))) written in
    let block : slice_range c.args.src.now (4 * ((length c.args.src.now - 1) / 4)) (length c.args.src.now)
    ≡ drop (4 * ((length c.args.src.now - 1) / 4)) c.args.src.now = grind (arith, common_steps) in
    let kept = c.decode_loose.auto.dst in
    let few : length (take (decoded_len c.count_unpadded-u.result - 3 * ((length c.args.src.now - 1) / 4))
    (drop (3 * ((length c.args.src.now - 1) / 4)) c.decode_loose.new.dst))
    ≡ decoded_len c.count_unpadded-u.result - 3 * ((length c.args.src.now - 1) / 4)
    = length-take-le (decoded_len c.count_unpadded-u.result - 3 * ((length c.args.src.now - 1) / 4))
    (drop (3 * ((length c.args.src.now - 1) / 4)) c.decode_loose.new.dst)
    (let d = length-drop (3 * ((length c.args.src.now - 1) / 4)) c.decode_loose.new.dst in let r = c.if-dst-size.false in omega arith) in
    let k : length (take (decoded_len c.count_unpadded-u.result - 3 * ((length c.args.src.now - 1) / 4))
    (drop (3 * ((length c.args.src.now - 1) / 4)) c.decode_loose.new.dst))
    ≡ decoded_len (unpadded_len g.E.Alphabet.form.padded c.args.src.now) - 3 * ((length c.args.src.now - 1) / 4) = few
    ∙ ap (λ n. decoded_len n - 3 * ((length c.args.src.now - 1) / 4)) u in
    let count = count_clean g.E.Alphabet.form.table g.E.Alphabet.form.padded c.args.src.now
    (decoded_len (unpadded_len g.E.Alphabet.form.padded c.args.src.now) - 3 * ((length c.args.src.now - 1) / 4)) clean ne l.some l.few l.whole in
    let first : c.decode_loose.new.steps ≡ c.args.steps.now + loose_count (unpadded_len g.E.Alphabet.form.padded c.args.src.now) = c.decode_loose.ensures.steps
    ∙ ap (λ n. c.args.steps.now + loose_count n) u in
    let second : c.is_encoding.new.steps ≡ c.decode_loose.new.steps
    + encode_count g.E.Alphabet.form.padded (decoded_len (unpadded_len g.E.Alphabet.form.padded c.args.src.now) - 3 * ((length c.args.src.now - 1) / 4)) =
    c.is_encoding.ensures.steps ∙ ap (λ n. c.decode_loose.new.steps + encode_count g.E.Alphabet.form.padded n) k in
    rw (lengths_hold g.E.Alphabet.form.padded c.args.src.now (length c.args.dst.now) whole room, ← count, second, first) (omega arith)

pub returns-clause-answers : goal.returns-clause-answers
returns-clause-answers g c = record {
  within = search rules;
  ok = let u : c.count_unpadded-u.result ≡ unpadded_len g.E.Alphabet.form.padded c.args.src.now = c.count_unpadded-u.ensures.value
      ∙ ap (λ (p : Bool). unpadded_len p c.args.src.now) (c.PADDED-2.ensures ∙ sym g.met.E.Alphabet.tells_padding) in
      let whole : HasWholeBlocks g.E.Alphabet.form.padded c.args.src.now = rw (g.met.E.Alphabet.tells_padding, ← c.PADDED.ensures)
      (c.has_whole_blocks.ensures.yes c.if-not-has_whole_blocks.false) in
      let room : decoded_len (unpadded_len g.E.Alphabet.form.padded c.args.src.now) ≤ length c.args.dst.now = rw (← u) c.if-dst-size.false in
      let clean : is_clean g.E.Alphabet.form.table g.E.Alphabet.form.padded c.args.src.now ≡ true = sym c.decode_loose.ensures.clean
      ∙ c.if-not-decode_loose.false in
      let written : take (decoded_len c.count_unpadded-u.result) c.decode_loose.new.dst
      ≡ loose_bytes g.E.Alphabet.form c.args.src.now = c.decode_loose.ensures.written clean in
      let ne = eqb-false (length c.args.src.now) 0 (sym c.is_empty.ensures ∙ c.if-is_empty.false) in
      let l = is_loose g.E.Alphabet.form.end g.E.Alphabet.form.table c.args.src.now g.E.Alphabet.form.padded ((length c.args.src.now - 1) / 4) refl
      (omega (arith, ne)) whole
      clean in
      let size : ℕ = 3 * (c.count_unpadded-u.result / 4) + 3 * (c.count_unpadded-u.result % 4) / 4 in
      let within : 3 * ((length c.args.src.now - 1) / 4) ≤ decoded_len c.count_unpadded-u.result = rw u l.within in
      let at : 3 * ((length c.args.src.now - 1) / 4) + (decoded_len c.count_unpadded-u.result - 3 * ((length c.args.src.now - 1) / 4))
      ≡ decoded_len c.count_unpadded-u.result = omega arith in
      let last : take (decoded_len c.count_unpadded-u.result - 3 * ((length c.args.src.now - 1) / 4))
      (drop (3 * ((length c.args.src.now - 1) / 4)) c.decode_loose.new.dst)
      ≡ drop (3 * ((length c.args.src.now - 1) / 4)) (loose_bytes g.E.Alphabet.form c.args.src.now)
      = sym (drop-take (3 * ((length c.args.src.now - 1) / 4)) (decoded_len c.count_unpadded-u.result - 3 * ((length c.args.src.now - 1) / 4))
      c.decode_loose.new.dst) ∙ ap (λ n. drop (3 * ((length c.args.src.now - 1) / 4)) (take n c.decode_loose.new.dst)) at
      ∙ ap (drop (3 * ((length c.args.src.now - 1) / 4))) written in
      let block : slice_range c.args.src.now (4 * ((length c.args.src.now - 1) / 4)) (length c.args.src.now)
      ≡ drop (4 * ((length c.args.src.now - 1) / 4)) c.args.src.now = grind (arith, common_steps) in
      let same : drop (4 * ((length c.args.src.now - 1) / 4)) c.args.src.now
      ≡ encoding_of g.E.Alphabet.form
      (take (decoded_len c.count_unpadded-u.result - 3 * ((length c.args.src.now - 1) / 4))
      (drop (3 * ((length c.args.src.now - 1) / 4)) c.decode_loose.new.dst))
      = sym block ∙ c.is_encoding.ensures.same.0 c.if-not-is_encoding.false in
      let text = text_from_last g.E.Alphabet.form.end g.E.Alphabet.form.table c.args.src.now
      (take (decoded_len c.count_unpadded-u.result - 3 * ((length c.args.src.now - 1) / 4))
      (drop (3 * ((length c.args.src.now - 1) / 4)) c.decode_loose.new.dst)) g.E.Alphabet.form.padded ((length c.args.src.now - 1) / 4)
      (facts g.E.Alphabet.form.table g.met.E.Alphabet.lawful) refl (omega (arith, ne)) l last same in
      text ∙ ap (encoding_of g.E.Alphabet.form) (sym written);
  bytes = grind (arith, common_steps);
  value = λ b bytes text. let u : c.count_unpadded-u.result ≡ unpadded_len g.E.Alphabet.form.padded c.args.src.now = c.count_unpadded-u.ensures.value
      ∙ ap (λ (p : Bool). unpadded_len p c.args.src.now) (c.PADDED-2.ensures ∙ sym g.met.E.Alphabet.tells_padding) in
      let clean : is_clean g.E.Alphabet.form.table g.E.Alphabet.form.padded c.args.src.now ≡ true = sym c.decode_loose.ensures.clean
      ∙ c.if-not-decode_loose.false in
      let written : take (decoded_len c.count_unpadded-u.result) c.decode_loose.new.dst
      ≡ loose_bytes g.E.Alphabet.form c.args.src.now = c.decode_loose.ensures.written clean in
      written ∙ (is_text g.E.Alphabet.form.end g.E.Alphabet.form.table g.E.Alphabet.form.padded c.args.src.now b
      (facts g.E.Alphabet.form.table g.met.E.Alphabet.lawful) bytes
      text).loose;
  accepted = λ b bytes text fit. let u : c.count_unpadded-u.result ≡ unpadded_len g.E.Alphabet.form.padded c.args.src.now = c.count_unpadded-u.ensures.value
      ∙ ap (λ (p : Bool). unpadded_len p c.args.src.now) (c.PADDED-2.ensures ∙ sym g.met.E.Alphabet.tells_padding) in
      let clean : is_clean g.E.Alphabet.form.table g.E.Alphabet.form.padded c.args.src.now ≡ true = sym c.decode_loose.ensures.clean
      ∙ c.if-not-decode_loose.false in
      let written : take (decoded_len c.count_unpadded-u.result) c.decode_loose.new.dst
      ≡ loose_bytes g.E.Alphabet.form c.args.src.now = c.decode_loose.ensures.written clean in
      written ∙ (is_text g.E.Alphabet.form.end g.E.Alphabet.form.table g.E.Alphabet.form.padded c.args.src.now b
      (facts g.E.Alphabet.form.table g.met.E.Alphabet.lawful) bytes
      text).loose;
  rest = search rules;
  behind = search rules;
  untouched = search rules;
  err = search rules;
}
