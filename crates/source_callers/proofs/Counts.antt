-- What a reader gives, by the lengths of its lists.
use Rattle.std.proofs.Common.{◌≡◌, ℕ, ◌+◌, ◌<◌, ◌≤◌, nat_le, Bool, true, false, cond, Some, List, length, length-append, sym, ap, ◌∙◌, subst, ⊎_elim, le_refl}
use Rattle.std.proofs.Common.{arith}
use Rattle.std.proofs.lemmas.Bool.Decides.{leb_tells}
use Rattle.identity_source.specs.State.{PlainState}
use Rattle.identity_source.specs.History.{IsHistory, StartsWith, EndsWith, EachBegins, first_revision, last_revision}
use Rattle.identity_source.specs.NamedList.{NamedList}
use Rattle.identity_source.specs.Reader.{PlainReader, Renewed, Told, LookSays}
use Rattle.identity_source.specs.Sight.{longer}
use Rattle.identity_source.specs.declared.kept_reader.Look.TheVariants.{Looked}
use Rattle.source_callers.specs.Told.{GivesLatest}

-- a revision counts the states up to it
abbrev pub Counts : Type 0
Counts = (list : List PlainState) (x : PlainState) → IsHistory list → EndsWith list x → x.revision + 1 ≡ first_revision list + length list

abbrev pub Lasts : Type 0
Lasts = (list : List PlainState) (x : PlainState) → EndsWith list x → last_revision list ≡ x.revision

pub goes_forward : Counts → {a b c : PlainReader} (x y : PlainState) → Renewed a b × EndsWith b.list x → Renewed b c × EndsWith c.list y
    → x.revision ≤ y.revision
goes_forward law {a = a} {b = b} {c = c} x y r s =
    let m : x.revision + 1 ≡ first_revision b.list + length b.list = law b.list x r.0.history r.1 in
    let n : y.revision + 1 ≡ first_revision c.list + length c.list = law c.list y s.0.history s.1 in
    let f : first_revision c.list ≡ first_revision b.list = s.0.first ∙ (ap (λ z. z.first) s.0.name ∙ sym r.0.first) in
    let l : length c.list ≡ length b.list + length s.0.begins.0 = ap length s.0.begins.1 ∙ length-append b.list s.0.begins.0 in omega arith

longer_than : (xs ys : List PlainState) → length ys ≤ length (longer xs ys)
longer_than xs ys = ⊎_elim (λ (t : (nat_le (length xs) (length ys) ≡ true) × (length xs ≤ length ys)). subst
    (λ (b : Bool). length ys ≤ length (cond b ys xs)) (sym t.0) (le_refl _))
    (λ (t : (nat_le (length xs) (length ys) ≡ false) × (length ys < length xs)). subst (λ (b : Bool). length ys ≤ length (cond b ys xs)) (sym t.0)
    (let lt : length ys < length xs = t.1 in omega arith))
    (leb_tells (length xs) (length ys))

sees_told : {a b c : PlainReader} (list : List PlainState) → Told a b list → Renewed b c → c.look ≡ Some Looked → StartsWith c.list list
sees_told {a = a} {b = b} {c = c} list t r look =
    let at = subst (LookSays b c) look r.look in
    (subst (EachBegins c.list) (t.learned.live (sym t.is_live ∙ at.live)).olds at.told).1.0

-- a reader that was told of the source's list
pub gives_latest : Counts → Lasts → (source receipt : NamedList) (x y : PlainState) (revision : ℕ) {a b c : PlainReader} → receipt ≡ source
    → receipt.name ≡ a.sight.name
    → IsHistory receipt.list → first_revision receipt.list ≡ receipt.name.first → EndsWith receipt.list x → Told a b receipt.list → Renewed b c
    × EndsWith c.list y → revision ≡ y.revision
    → GivesLatest source c revision
gives_latest counts lasts source receipt x y revision {a = a} {b = b} {c = c} is named history first last t r same =
    let m : x.revision + 1 ≡ first_revision receipt.list + length receipt.list = counts receipt.list x history last in
    let n : y.revision + 1 ≡ first_revision c.list + length c.list = counts c.list y r.0.history r.1 in
    let f : first_revision c.list ≡ first_revision receipt.list = r.0.first ∙ (ap (λ z. z.first) (r.0.name ∙ (t.name ∙ sym named)) ∙ sym first) in
    let l : length c.list ≡ length b.list + length r.0.begins.0 = ap length r.0.begins.1 ∙ length-append b.list r.0.begins.0 in
    let k : length receipt.list ≤ length b.list = subst (λ (z : List PlainState). length receipt.list ≤ length z) (sym t.list)
    (longer_than a.list receipt.list) in
    let e : last_revision receipt.list ≡ x.revision = lasts receipt.list x last in
    let later : last_revision receipt.list ≤ revision = omega arith in
    record {
      later = subst (λ (z : NamedList). last_revision z.list ≤ revision) is later;
      seen = λ look. subst (λ (z : NamedList). StartsWith c.list z.list) is (sees_told receipt.list t r.0 look);
    }
