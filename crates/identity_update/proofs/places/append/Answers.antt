use Rattle.std.proofs.Common.{◌≡◌, ◌++◌, List, ℕ, [], length, refl, sym, ap, ◌∙◌, append-nil, length-append, arith}
use Rattle.std.proofs.lemmas.Grind.{common_steps}
use Rattle.identity_update.specs.Checked.{checked_entry}
use Rattle.identity_update.proofs.PlacesLaws.{entry_der}
use Rattle.identity_update.proofs.places.append.Goals as goal

pub overflow_cast-end : goal.overflow_cast-end
overflow_cast-end c =
    let fits = c.requires.fits in
    let long = ap length (c.in-Ok.ensures.wrote.ok.1 c.args.writer.now.bytes.items refl)
    ∙ length-append c.args.writer.now.bytes.items (entry_der (checked_entry c.args.entry)) in
    let end : c.len-end.result ≡ length c.encode.new.writer.bytes.items = grind (arith, common_steps) in
    omega arith

pub keep-requires-clause-stands : goal.keep-requires-clause-stands
keep-requires-clause-stands c =
    let old : List ℕ = c.args.writer.now.bytes.items in
    let der : List ℕ = entry_der (checked_entry c.args.entry) in
    let written : c.encode.new.writer.bytes.items ≡ old ++ der = c.in-Ok.ensures.wrote.ok.1 old refl in
    let long = ap length written ∙ length-append old der in
    let end : c.len-end.result ≡ length c.encode.new.writer.bytes.items = grind (arith, common_steps) in
    record {
      pre = old;
      post = [];
      is = c.deref.ensures.value ∙ written ∙ ap (λ (s : List ℕ). old ++ s) (sym (append-nil der));
      at = omega arith;
    }

pub keep-requires-clause-small : goal.keep-requires-clause-small
keep-requires-clause-small c =
    let fits = c.requires.fits in
    let written = ap length (c.deref.ensures.value ∙ c.in-Ok.ensures.wrote.ok.1 c.args.writer.now.bytes.items refl) in
    let long = written ∙ length-append c.args.writer.now.bytes.items (entry_der (checked_entry c.args.entry)) in
    omega arith
