use Rattle.std.proofs.Common.{ℕ, List, IsAscii, sym, subst, rules}
use Rattle.std.proofs.lemmas.Grind.{get_or_default_zero}
use Rattle.base64_alphabet.proofs.TableLemmas.{facts}
use Rattle.base64_text.specs.Canonical.{IsBytes}
use Rattle.base64_text.proofs.EncodingLemmas.{encoding_ascii}
use Rattle.base64_text.proofs.encode_text.encode_fitting.Goals as goal

pub returns-clause-answers : goal.returns-clause-answers
returns-clause-answers g c =
    let bytes : IsBytes c.args.src.now = λ k d lt. rw (get_or_default_zero c.args.src.now k d lt) ((c.type_inv.src k).fits) in
    record {
      within = search rules;
      text = search rules;
      rest = search rules;
      same = search rules;
      ascii = subst (λ (xs : List ℕ). IsAscii xs) (sym c.encode_into.ensures.encoded.text)
          (encoding_ascii g.E.Alphabet.form.end g.E.Alphabet.form.table g.E.Alphabet.form.padded c.args.src.now
          (facts g.E.Alphabet.form.table g.met.E.Alphabet.lawful) bytes);
      fits = search rules;
    }
