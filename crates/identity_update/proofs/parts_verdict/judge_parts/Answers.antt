use Rattle.std.proofs.Common.{◌≡◌, ℕ, List, Ok, Err, Result, inl, refl, sym, ap, ◌∙◌, arith}
use Rattle.identity_update.specs.Assembled.{assembled}
use Rattle.identity_update.specs.Canonical.{canonical}
use Rattle.identity_update.specs.Checked.{checked_entry}
use Rattle.identity_update.specs.LawfulParts.{update_of}
use Rattle.identity_update.specs.Parts.{Entry, UpdateParts}
use Rattle.identity_update.specs.PartsVerdict.{parts_verdict}
use Rattle.identity_update.specs.Verdict.{IsRefusal, members_check}
use Rattle.identity_update.specs.declared.assembly.LawfulParts.{LawfulParts}
use Rattle.identity_update.specs.declared.error.UpdateError.{UpdateError}
use Rattle.identity_update.proofs.AssemblyLaws.{entries_shorter}
use Rattle.identity_update.proofs.JudgeLaws.{given_parts, purpose_map, set_has_domains, update_is, value_is}
use Rattle.identity_update.proofs.PartsLaws.{PartsHold, parts_fit, parts_judged, parts_lawful}
use Rattle.identity_update.proofs.Results.{passed_on}
use Rattle.identity_update.proofs.parts_verdict.judge_parts.Goals as goal

pub check_pairs-requires : goal.check_pairs-requires
check_pairs-requires c =
    let u = assembled c.args.entries.items c.args.bundles.items c.args.reason in
    let fits = parts_fit u (sym (rw (c.deref.ensures.value, c.deref-2.ensures.value) at c.in_ok-check_fits.ensures)) in
    let shorter = entries_shorter (canonical u) in
    record { fits = omega arith }

pub returns-in_err-check_members-clause-refusal : goal.returns-in_err-check_members-clause-refusal
returns-in_err-check_members-clause-refusal c =
    let u = assembled c.args.entries.items c.args.bundles.items c.args.reason in
    let holds : PartsHold u = record {
      fits = sym (rw (c.deref.ensures.value, c.deref-2.ensures.value) at c.in_ok-check_fits.ensures);
      purpose = purpose_map checked_entry c.args.entries.items u.reason ∙ sym (rw c.deref-3.ensures.value at c.in_ok-check_purpose.ensures);
      pairs = c.in_ok-entries.ensures.ok;
      key_sets = rw c.deref-4.ensures.value at c.in_ok-set.ensures.ok;
    } in
    let written : List ℕ = c.in_ok-entries.entries.written.items in
    let set = rw c.deref-4.ensures.value at c.in_ok-set.ensures.set in
    let domains = set_has_domains c.in_ok-set.set u.bundles set in
    let same = ap (λ (es : List Entry). members_check 0 u.bundles es) c.in_ok-entries.ensures.value in
    passed_on (IsRefusal (parts_verdict u)) _ c.in_err-check_members.field-0.0 c.from_residual-in_err-check_members.ensures.1
    (inl (parts_judged u (Err c.in_err-check_members.field-0.0) holds
    (sym same ∙ sym (rw c.deref-5.ensures.value at (c.in_err-check_members.ensures written u.bundles domains)))))

pub assemble-requires : goal.assemble-requires
assemble-requires c =
    let u = assembled c.args.entries.items c.args.bundles.items c.args.reason in
    let holds : PartsHold u = record {
      fits = sym (rw (c.deref.ensures.value, c.deref-2.ensures.value) at c.in_ok-check_fits.ensures);
      purpose = purpose_map checked_entry c.args.entries.items u.reason ∙ sym (rw c.deref-3.ensures.value at c.in_ok-check_purpose.ensures);
      pairs = c.in_ok-entries.ensures.ok;
      key_sets = rw c.deref-4.ensures.value at c.in_ok-set.ensures.ok;
    } in
    let written : List ℕ = c.in_ok-entries.entries.written.items in
    let set = rw c.deref-4.ensures.value at c.in_ok-set.ensures.set in
    let domains = set_has_domains c.in_ok-set.set u.bundles set in
    let same = ap (λ (es : List Entry). members_check 0 u.bundles es) c.in_ok-entries.ensures.value in
    let members : members_check 0 u.bundles u.entries ≡ Ok tt = sym same
    ∙ sym (rw c.deref-5.ensures.value at (c.in_ok-check_members.ensures written u.bundles domains)) in
    let p : LawfulParts = record {
      entries = c.in_ok-entries.entries;
      bundles = record { parts = c.args.bundles; set = c.in_ok-set.set };
      reason =
          c.in_ok-reason.reason;
    } in
    let is = update_is p u c.in_ok-entries.ensures.value refl c.in_ok-reason.ensures.ok in
    let lawful = parts_lawful u holds members c.requires.ids (rw c.deref-4.ensures.value at c.in_ok-set.ensures.domains) c.requires.reason in
    given_parts p u is lawful (parts_fit u holds.fits) c.in_ok-entries.ensures.kept set

pub returns-clause-value : goal.returns-clause-value
returns-clause-value c =
    let u = assembled c.args.entries.items c.args.bundles.items c.args.reason in
    let holds : PartsHold u = record {
      fits = sym (rw (c.deref.ensures.value, c.deref-2.ensures.value) at c.in_ok-check_fits.ensures);
      purpose = purpose_map checked_entry c.args.entries.items u.reason ∙ sym (rw c.deref-3.ensures.value at c.in_ok-check_purpose.ensures);
      pairs = c.in_ok-entries.ensures.ok;
      key_sets = rw c.deref-4.ensures.value at c.in_ok-set.ensures.ok;
    } in
    let written : List ℕ = c.in_ok-entries.entries.written.items in
    let set = rw c.deref-4.ensures.value at c.in_ok-set.ensures.set in
    let domains = set_has_domains c.in_ok-set.set u.bundles set in
    let same = ap (λ (es : List Entry). members_check 0 u.bundles es) c.in_ok-entries.ensures.value in
    let members : members_check 0 u.bundles u.entries ≡ Ok tt = sym same
    ∙ sym (rw c.deref-5.ensures.value at (c.in_ok-check_members.ensures written u.bundles domains)) in
    let p : LawfulParts = record {
      entries = c.in_ok-entries.entries;
      bundles = record { parts = c.args.bundles; set = c.in_ok-set.set };
      reason =
          c.in_ok-reason.reason;
    } in
    let is = update_is p u c.in_ok-entries.ensures.value refl c.in_ok-reason.ensures.ok in
    let answer : UpdateParts → Result UpdateParts UpdateError = λ v. Ok v in
    value_is c.assemble.result (parts_verdict u) (update_of p) c.assemble.ensures.value (parts_judged u (Ok tt) holds members ∙ ap answer (sym is))
