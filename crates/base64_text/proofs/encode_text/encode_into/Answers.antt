use Rattle.std.proofs.Common.{◌≡◌, ℕ, ◌+◌, ◌-◌, ap, length-drop, ◌*◌, ◌/◌, ◌≤◌, List, length, take, drop, arith, refl, slice_range, sym, ◌∙◌, rules}
use Rattle.std.proofs.lemmas.Grind.{common_steps}
use Rattle.std.proofs.lemmas.List.{length-take-le}
use Rattle.base64_alphabet.specs.Encoding.{encoding_of}
use Rattle.base64_text.specs.Counts.{encoded_len}
use Rattle.base64_text.proofs.EncodingLemmas.{encoded_text, len_split, few_len}
use Rattle.base64_alphabet.specs.Encoding.{characters}
use Rattle.base64_text.proofs.RestLemmas.{front_kept, rest_kept}
use Rattle.base64_text.proofs.WholeLemmas.{length-characters}
use Rattle.base64_text.proofs.encode_text.encode_into.Goals as goal

pub returns-clause-encoded : goal.returns-clause-encoded
returns-clause-encoded g c =
    let src : List ℕ = c.args.src.now in
    let q : ℕ = length c.args.src.now / 3 in
    let k : ℕ = c.encode_rest-len.result.1 in
    let rest : slice_range c.args.src.now (3 * q) (length c.args.src.now) ≡ drop (3 * q) c.args.src.now = grind (arith, common_steps) in
    let text : take k c.encode_rest-len.result.0 ≡ encoding_of g.E.Alphabet.form (drop (3 * q) c.args.src.now) =
    rw (← rest) c.encode_rest-len.ensures.text in
    let len : k ≡ encoded_len g.E.Alphabet.form.padded (length c.args.src.now - 3 * q)
    = c.encode_rest-len.ensures.len ∙ ap (λ (xs : List ℕ). encoded_len g.E.Alphabet.form.padded (length xs)) rest
    ∙ ap (encoded_len g.E.Alphabet.form.padded) (length-drop (3 * q) c.args.src.now) in
    let split : encoded_len g.E.Alphabet.form.padded (length c.args.src.now) ≡ 4 * q + k = len_split g.E.Alphabet.form.padded (length c.args.src.now)
    ∙ ap (λ n. 4 * q + n) (sym len) in
    let fits : 4 * q + k ≤ length c.args.dst.now = rw split at c.requires.room in
    let kept = c.encode_blocks.auto.dst in
    let room : 4 * q + k ≤ length c.encode_blocks.new.dst = omega arith in
    let few : encoded_len g.E.Alphabet.form.padded (length c.args.src.now - 3 * q) ≤ 4 = few_len g.E.Alphabet.form.padded (length c.args.src.now - 3 * q)
    (omega arith) in
    let long : length (take k c.encode_rest-len.result.0) ≡ k = length-take-le k c.encode_rest-len.result.0 (omega arith) in
    record {
      len = search rules;
      text = encoded_text g.E.Alphabet.form.end g.E.Alphabet.form.table c.args.src.now c.encode_blocks.new.dst _ c.copy_from_slice.new.self
          (take k c.encode_rest-len.result.0)
          g.E.Alphabet.form.padded q k refl room
          c.encode_blocks.ensures.written c.copy_from_slice.ensures.after long text;
    }

pub returns-clause-rest : goal.returns-clause-rest
returns-clause-rest g c =
    let q : ℕ = length c.args.src.now / 3 in
    let k : ℕ = c.encode_rest-len.result.1 in
    let rest : slice_range c.args.src.now (3 * q) (length c.args.src.now) ≡ drop (3 * q) c.args.src.now = grind (arith, common_steps) in
    let len : k ≡ encoded_len g.E.Alphabet.form.padded (length c.args.src.now - 3 * q)
    = c.encode_rest-len.ensures.len ∙ ap (λ (xs : List ℕ). encoded_len g.E.Alphabet.form.padded (length xs)) rest
    ∙ ap (encoded_len g.E.Alphabet.form.padded) (length-drop (3 * q) c.args.src.now) in
    let split : encoded_len g.E.Alphabet.form.padded (length c.args.src.now) ≡ 4 * q + k = len_split g.E.Alphabet.form.padded (length c.args.src.now)
    ∙ ap (λ n. 4 * q + n) (sym len) in
    let fits : 4 * q + k ≤ length c.args.dst.now = rw split at c.requires.room in
    let kept = c.encode_blocks.auto.dst in
    let few : encoded_len g.E.Alphabet.form.padded (length c.args.src.now - 3 * q) ≤ 4 = few_len g.E.Alphabet.form.padded (length c.args.src.now - 3 * q)
    (omega arith) in
    let long : length (take k c.encode_rest-len.result.0) ≡ k = length-take-le k c.encode_rest-len.result.0 (omega arith) in
    let groups : length (take (3 * q) c.args.src.now) ≡ 3 * q = length-take-le (3 * q) c.args.src.now (omega arith) in
    let written : length (characters g.E.Alphabet.form.end g.E.Alphabet.form.table (take (3 * q) c.args.src.now)) ≡ 4 * q
    = length-characters g.E.Alphabet.form.end g.E.Alphabet.form.table (take (3 * q) c.args.src.now) (omega arith) ∙ omega arith in
    rest_kept c.args.dst.now c.encode_blocks.new.dst c.copy_from_slice.new.self (4 * q) _ _
    (front_kept _ c.args.dst.now c.encode_blocks.new.dst _ (4 * q) c.encode_blocks.ensures.written written (omega arith)) (omega arith)
    (ap length c.copy_from_slice.ensures.after ∙ long ∙ omega arith) (omega arith)
