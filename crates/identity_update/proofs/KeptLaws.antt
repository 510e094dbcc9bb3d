-- What is kept of entries, as more bytes are written behind theirs.
use Rattle.std.proofs.Common.{◌≡◌, ℕ, ◌+◌, ◌-◌, ◌<◌, ◌^◌, List, [], ◌∷◌, ◌++◌, length, take, drop, map, option_map, Option, Some, None, IfSome, refl, sym, ap}
use Rattle.std.proofs.Common.{subst, ◌∙◌, append-nil, length-append, length-drop, arith, if◌then◌else◌}
use Rattle.std.proofs.lemmas.Grind.{flat_map-append}
use Rattle.std.proofs.lemmas.List.{drop-append-le, map-append, take-append-le}
use Rattle.std.specs.List.{flat_map}
use Rattle.der_core.specs.Any.{PlainAny}
use Rattle.der_core.specs.ObjectIdentifier.{oid_content}
use Rattle.der_small.specs.Bits.{AreBits}
use Rattle.spki.specs.PlainPublicKey.{public_key_der}
use Rattle.update_document.specs.Spelling.{entry_der}
use Rattle.update_document.specs.Written.{WrittenEntry}
use Rattle.identity_update.specs.Canonical.{canonical_entry}
use Rattle.identity_update.specs.Kept.{AreKept, IsKept, IsPlaced, kept_any, kept_entry}
use Rattle.identity_update.specs.KeptEntries.{AreWritten, entries_der}
use Rattle.identity_update.specs.Parts.{Entry}
use Rattle.identity_update.specs.Place.{IsWithin, part}
use Rattle.identity_update.specs.declared.kept.KeptAny.{KeptAny}
use Rattle.identity_update.specs.declared.kept.KeptEntry.{KeptEntry}
use Rattle.identity_update.specs.declared.place.Place.{Place}

part_more : (w x : List ℕ) (p : Place) → IsWithin w p → part (w ++ x) p ≡ part w p
part_more w x p h =
    let order = h.order in
    let inside = h.inside in
    let left = length-drop {A = ℕ} p.start w in
    ap (λ (s : List ℕ). take (p.end - p.start) s) (drop-append-le p.start w x (omega arith)) ∙ take-append-le (p.end - p.start) (drop p.start w) x (omega arith)

within_more : (w x : List ℕ) (p : Place) → IsWithin w p → IsWithin (w ++ x) p
within_more w x p h =
    let inside = h.inside in
    let sum = length-append w x in
    record { order = h.order; inside = omega arith }

any_more : (w x : List ℕ) (o : Option KeptAny) → IfSome o (λ k. IsWithin w k.content) → option_map (kept_any (w ++ x)) o ≡ option_map (kept_any w) o
any_more w x None h = refl
any_more w x (Some k) h =
    let of : List ℕ → Option PlainAny = λ c. Some (record { tag = (kept_any w k).tag; content = c }) in
    ap of (part_more w x k.content h)

any_within : (w x : List ℕ) (o : Option KeptAny) → IfSome o (λ k. IsWithin w k.content) → IfSome o (λ k. IsWithin (w ++ x) k.content)
any_within w x None h = tt
any_within w x (Some k) h = within_more w x k.content h

option_more : (w x : List ℕ) (o : Option Place) → IfSome o (IsWithin w) → option_map (part (w ++ x)) o ≡ option_map (part w) o
option_more w x None h = refl
option_more w x (Some p) h =
    let some : List ℕ → Option (List ℕ) = λ c. Some c in
    ap some (part_more w x p h)

option_within : (w x : List ℕ) (o : Option Place) → IfSome o (IsWithin w) → IfSome o (IsWithin (w ++ x))
option_within w x None h = tt
option_within w x (Some p) h = within_more w x p h

-- an entry by the bytes of its parts
abbrev entry_by : KeptEntry → Option PlainAny → List ℕ → Option (List ℕ) → List ℕ → Entry
entry_by e parameters octets attributes bits = record {
  id = e.id;
  private_key = record {
    algorithm = record { oid = oid_content e.oid; parameters = parameters };
    private_key = octets;
    attributes = attributes;
    public_key = if e.holds_public_key then Some (record { unused_bits = e.unused_bits; octets = bits }) else None;
  };
  public_key = record { algorithm = record { oid = oid_content e.oid; parameters = parameters }; key = record { unused_bits = e.unused_bits; octets = bits } };
}

entry_more : (w x : List ℕ) (e : KeptEntry) → IsPlaced w e → kept_entry (w ++ x) e ≡ kept_entry w e
entry_more w x e h =
    let more : List ℕ = w ++ x in
    ap (λ p. entry_by e p (part more e.octets) (option_map (part more) e.attributes) (part more e.bits)) (any_more w x e.parameters h.parameters)
    ∙ ap (λ p. entry_by e (option_map (kept_any w) e.parameters) p (option_map (part more) e.attributes) (part more e.bits)) (part_more w x e.octets h.octets)
    ∙ ap (λ p. entry_by e (option_map (kept_any w) e.parameters) (part w e.octets) p (part more e.bits)) (option_more w x e.attributes h.attributes)
    ∙ ap (λ p. entry_by e (option_map (kept_any w) e.parameters) (part w e.octets) (option_map (part w) e.attributes) p) (part_more w x e.bits h.bits)

kept_more : (w x : List ℕ) (e : KeptEntry) → length (w ++ x) < 2 ^ 32 → IsKept w e → IsKept (w ++ x) e
kept_more w x e small h = record {
  placed = record {
    small = small;
    parameters = any_within w x e.parameters h.placed.parameters;
    octets = within_more w x e.octets h.placed.octets;
    attributes = option_within w x e.attributes h.placed.attributes;
    bits = within_more w x e.bits h.placed.bits;
    are_bits = subst (AreBits e.unused_bits) (sym (part_more w x e.bits h.placed.bits)) h.placed.are_bits;
  };
  public_key = subst (λ (v : Entry). length (public_key_der v.public_key) < 2 ^ 32) (sym (entry_more w x e h.placed)) h.public_key;
}

entries_more : (w x : List ℕ) (es : List KeptEntry) → AreKept w es → map (kept_entry (w ++ x)) es ≡ map (kept_entry w) es
entries_more w x [] h = refl
entries_more w x (e ∷ es) h =
    let with_first : Entry → List Entry = λ v. v ∷ map (kept_entry (w ++ x)) es in
    let with_rest : List Entry → List Entry = λ vs. kept_entry w e ∷ vs in
    ap with_first (entry_more w x e h.0.placed) ∙ ap with_rest (entries_more w x es h.1)

-- one more is kept
kept_push : (w x : List ℕ) (es : List KeptEntry) (e : KeptEntry) → length (w ++ x) < 2 ^ 32 → AreKept w es → IsKept (w ++ x) e → AreKept (w ++ x) (es ++ e ∷ [])
kept_push w x [] e small are one = (one, tt)
kept_push w x (d ∷ es) e small are one = (kept_more w x d small are.0, kept_push w x es e small are.1 one)

entries_push : (vs : List Entry) (v : Entry) → entries_der (vs ++ v ∷ []) ≡ entries_der vs ++ entry_der (canonical_entry v)
entries_push vs v =
    ap (λ (ws : List WrittenEntry). flat_map entry_der ws) (map-append canonical_entry vs (v ∷ []))
    ∙ flat_map-append entry_der (map canonical_entry vs) (canonical_entry v ∷ [])
    ∙ ap (λ (s : List ℕ). entries_der vs ++ s) (append-nil (entry_der (canonical_entry v)))

-- the entries with one more behind them
pub record Pushed (old : List ℕ) (es : List KeptEntry) (v : Entry) (new : List ℕ) (fs : List KeptEntry) : Type 0 where
  pub written : AreWritten new fs
  pub entries : map (kept_entry new) fs ≡ map (kept_entry old) es ++ v ∷ []
  pub count : length fs ≡ length es + 1

pub no_entries : AreWritten [] []
no_entries = record { kept = tt; are = refl }

pub pushed_at : (old : List ℕ) (es : List KeptEntry) (v : Entry) (e : KeptEntry) → AreWritten old es
    → kept_entry (old ++ entry_der (canonical_entry v)) e ≡ v → IsKept (old ++ entry_der (canonical_entry v)) e
    → Pushed old es v (old ++ entry_der (canonical_entry v)) (es ++ e ∷ [])
pushed_at old es v e h is one =
    let more : List ℕ = entry_der (canonical_entry v) in
    let new : List ℕ = old ++ more in
    let entries : map (kept_entry new) (es ++ e ∷ []) ≡ map (kept_entry old) es ++ v ∷ [] =
    map-append (kept_entry new) es (e ∷ [])
    ∙ ap (λ (vs : List Entry). vs ++ kept_entry new e ∷ []) (entries_more old more es h.kept)
    ∙ ap (λ (x : Entry). map (kept_entry old) es ++ x ∷ []) is in
    record {
      written = record {
        kept = kept_push old more es e one.placed.small h.kept one;
        are = ap (λ (s : List ℕ). s ++ more) h.are ∙ sym (entries_push (map (kept_entry old) es) v) ∙ ap entries_der (sym entries);
      };
      entries = entries;
      count = length-append es (e ∷ []);
    }

-- and as a loop comes by it
pub pushed : (old : List ℕ) (es : List KeptEntry) (v : Entry) (e : KeptEntry) (new : List ℕ) (fs : List KeptEntry) → AreWritten old es
    → new ≡ old ++ entry_der (canonical_entry v) → fs ≡ es ++ e ∷ [] → kept_entry new e ≡ v → IsKept new e → Pushed old es v new fs
pushed old es v e new fs h written kept is one =
    let at : Pushed old es v (old ++ entry_der (canonical_entry v)) (es ++ e ∷ []) = pushed_at old es v e h (rw written at is) (rw written at one) in
    let first : Pushed old es v new (es ++ e ∷ []) = subst (λ (s : List ℕ). Pushed old es v s (es ++ e ∷ [])) (sym written) at in
    subst (λ (xs : List KeptEntry). Pushed old es v new xs) (sym kept) first
