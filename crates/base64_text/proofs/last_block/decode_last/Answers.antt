use Rattle.std.proofs.Common.{◌≡◌, true, sym, ◌∙◌, refl, arith, ap, length, take, ◌+◌, ◌*◌, ◌/◌}
use Rattle.base64_alphabet.proofs.TableLemmas.{facts}
use Rattle.std.proofs.Common.{pos, of_z, if◌then◌else◌}
use Rattle.std.proofs.lemmas.Bool.{both_ways}
use mir.Syntax.{w16}
use Rattle.base64_alphabet.specs.Encoding.{encoding_of}
use Rattle.base64_alphabet.specs.Table.{all_in}
use Rattle.base64_text.specs.Canonical.{unpadded_len}
use Rattle.base64_text.specs.LastBlock.{filled}
use Rattle.base64_text.proofs.LastLemmas.{is_last, front_is, same_texts}
use Rattle.base64_text.proofs.last_block.decode_last.Goals as goal
use Rattle.base64_text.proofs.last_block.decode_last.Goals.{then-k-eq0-via-then-k-eq0, then-k-eq0-via-else-k-eq0+then-k-gt3}

pub returns-then-last-lt2-clause-none : goal.returns-then-last-lt2-clause-none
returns-then-last-lt2-clause-none g c b bytes is =
    let f = facts g.E.Alphabet.form.table g.met.E.Alphabet.lawful in
    let l = is_last g.E.Alphabet.form.end g.E.Alphabet.form.table g.E.Alphabet.form.padded c.args.last.now b f bytes c.requires.some c.requires.few is in
    omega (arith, l.two)

pub returns-then-k-eq0-clause-none : goal.returns-then-k-eq0-clause-none
returns-then-k-eq0-clause-none g c b bytes is =
    let f = facts g.E.Alphabet.form.table g.met.E.Alphabet.lawful in
    let l = is_last g.E.Alphabet.form.end g.E.Alphabet.form.table g.E.Alphabet.form.padded c.args.last.now b f bytes c.requires.some c.requires.few is in
    let u : c.count_unpadded-u.result ≡ length b + 1 = c.count_unpadded-u.ensures.value
    ∙ ap (λ p. unpadded_len p c.args.last.now) (c.PADDED.ensures ∙ sym g.met.E.Alphabet.tells_padding) ∙ l.len in
    elim c.then-k-eq0.branch [ then-k-eq0-via-then-k-eq0 w ↦ omega (arith, l.some) | then-k-eq0-via-else-k-eq0+then-k-gt3 w ↦ omega (arith, l.few) ]

pub returns-then-decode_3bytes-ne0-clause-none : goal.returns-then-decode_3bytes-ne0-clause-none
returns-then-decode_3bytes-ne0-clause-none g c b bytes is =
    let f = facts g.E.Alphabet.form.table g.met.E.Alphabet.lawful in
    let l = is_last g.E.Alphabet.form.end g.E.Alphabet.form.table g.E.Alphabet.form.padded c.args.last.now b f bytes c.requires.some c.requires.few is in
    let u : c.count_unpadded-u.result ≡ length b + 1 = c.count_unpadded-u.ensures.value
    ∙ ap (λ p. unpadded_len p c.args.last.now) (c.PADDED.ensures ∙ sym g.met.E.Alphabet.tells_padding) ∙ l.len in
    let block : c.fill-block.result ≡ filled (length b + 1) c.args.last.now = c.fill-block.ensures ∙ ap (λ n. filled n c.args.last.now) u in
    let zero : c.decode_3bytes.result ≡ pos 0 = c.decode_3bytes.ensures.answer
    ∙ ap (λ t. if t then pos 0 else pos 1) (ap (all_in g.E.Alphabet.form.table) block ∙ l.in_table) in
    c.if-decode_3bytes-ne0.true (ap (of_z w16) zero)

pub returns-else-eq-clause-none : goal.returns-else-eq-clause-none
returns-else-eq-clause-none g c b bytes is =
    let f = facts g.E.Alphabet.form.table g.met.E.Alphabet.lawful in
    let l = is_last g.E.Alphabet.form.end g.E.Alphabet.form.table g.E.Alphabet.form.padded c.args.last.now b f bytes c.requires.some c.requires.few is in
    let u : c.count_unpadded-u.result ≡ length b + 1 = c.count_unpadded-u.ensures.value
    ∙ ap (λ p. unpadded_len p c.args.last.now) (c.PADDED.ensures ∙ sym g.met.E.Alphabet.tells_padding) ∙ l.len in
    let block : c.fill-block.result ≡ filled (length b + 1) c.args.last.now = c.fill-block.ensures ∙ ap (λ n. filled n c.args.last.now) u in
    let in_table : all_in g.E.Alphabet.form.table c.fill-block.result ≡ true = ap (all_in g.E.Alphabet.form.table) block ∙ l.in_table in
    let k : 3 * c.count_unpadded-u.result / 4 ≡ length b = omega (arith, l.some, l.few) in
    let written = c.decode_3bytes.ensures.written in_table in
    let front : take (length b) c.decode_3bytes.new.dst ≡ b = rw (written, block) (front_is (length b) _ _ b l.bytes refl) in
    let same : take c.encode_few-len.result.1 c.encode_few-len.result.0 ≡ c.args.last.now =
    c.encode_few-len.ensures.text ∙ ap (encoding_of g.E.Alphabet.form) (rw k front) ∙ sym is in
    both_ways _ c.if-eq.false (c.eq.ensures ∙ same_texts _ _ same)
