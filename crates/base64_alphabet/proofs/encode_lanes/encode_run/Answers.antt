use Rattle.std.proofs.Common.{◌≡◌, ℕ, ◌*◌, ◌/◌, ◌++◌, length, take, drop, arith, ap, ◌∙◌, length-drop}
use Rattle.std.proofs.lemmas.List.{length-take-le}
use Rattle.base64_alphabet.specs.Encoding.{characters}
use Rattle.base64_alphabet.proofs.EncodePartsLemmas.{run_written}
use Rattle.base64_alphabet.proofs.PartsLemmas.{put_end, tail_is}
use Rattle.base64_alphabet.proofs.encode_lanes.encode_run.Goals as goal

pub returns-clause-written : goal.returns-clause-written
returns-clause-written g c =
    let src = c.args.src.now in
    let p : ℕ = length c.args.src.now / 24 in
    let n : ℕ = 24 * (length c.args.src.now / 24) in
    let l = length-drop (24 * (length c.args.src.now / 24)) c.args.src.now in
    let size : length (take (24 * (length c.args.src.now / 24)) c.args.src.now) ≡ 24 * (length c.args.src.now / 24) =
    length-take-le (24 * (length c.args.src.now / 24)) c.args.src.now (omega arith) in
    let e : 32 * (length (take (24 * (length c.args.src.now / 24)) c.args.src.now) / 24) ≡ 32 * (length c.args.src.now / 24) = omega arith in
    let whole = c.requires.whole in
    let room = c.requires.room in
    let len = c.encode_parts.auto.dst in
    let front = c.encode_parts.ensures.written ∙ ap (λ m. characters g.E.Alphabet.form.end g.E.Alphabet.form.table (take n src) ++ drop m c.args.dst.now) e in
    let more = c.encode_each.ensures.written
    ∙ (λ i. characters g.E.Alphabet.form.end g.E.Alphabet.form.table (tail_is n src i)
    ++ drop (4 * (length (tail_is n src i) / 3)) (tail_is (32 * p) c.encode_parts.new.dst i)) in
    run_written g.E.Alphabet.form.end g.E.Alphabet.form.table src c.args.dst.now c.encode_parts.new.dst _ c.encode_each.new.dst p
    (4 * (length (drop (24 * (length c.args.src.now / 24)) c.args.src.now) / 3)) (4 * (length c.args.src.now / 3)) (omega arith) (omega arith) (omega arith)
    front (put_end (32 * p) c.encode_parts.new.dst c.encode_each.new.dst (omega arith)) more
