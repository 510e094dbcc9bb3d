-- What a reader that goes from element to element knows.
use Rattle.std.proofs.Common.{◌≡◌, ℕ, ◌+◌, ◌<◌, List, [], ◌∷◌, ◌++◌, length, refl, sym, ap, ◌∙◌, append_assoc, append-nil, length-append, arith}
use Rattle.der_core.specs.Decode.{Front, NoFront}
use Rattle.der_core.specs.Der.{IsValue}
use Rattle.der_core.specs.SequenceLaws.{then_same, then_none}
use Rattle.update_document.specs.Elements.{Elements}
use Rattle.update_document.specs.ElementsLaws.{not_empty}

some_length : (s : List ℕ) → (s ≡ [] → ⊥) → 0 < length s
some_length [] n = absurd (n refl)
some_length (x ∷ xs) n = omega arith

pub value_length : (b : List ℕ) → IsValue b → 0 < length b
value_length b v = some_length b (λ e. not_empty b [] v (ap (λ (x : List ℕ). x ++ []) e))

pub front_shorter : {V : Type 0} (Reads : List ℕ → V → Type 0) (s rest : List ℕ) (v : V) → ((b : List ℕ) (v : V) → Reads b v → IsValue b)
    → Front Reads s rest v → length rest < length s
front_shorter Reads s rest v law f =
    let some = value_length f.front (law f.front v f.reads) in
    let sum : length s ≡ length f.front + length rest = ap length f.is ∙ length-append f.front rest in
    omega arith

-- One more encoding behind them.
pub elements_push : {V : Type 0} (Reads : List ℕ → V → Type 0) (vs : List V) (v : V) (front b : List ℕ) → Elements Reads vs front → Reads b v
    → Elements Reads (vs ++ v ∷ []) (front ++ b)
elements_push Reads [] v front b e r = record { front = b; rest = []; is = ap (λ (x : List ℕ). x ++ b) e ∙ sym (append-nil b); reads = r; next = refl }
elements_push Reads (u ∷ us) v front b e r = record {
  front = e.front;
  rest = e.rest ++ b;
  is = ap (λ (x : List ℕ). x ++ b) e.is ∙ append_assoc e.front e.rest b;
  reads = e.reads;
  next = elements_push Reads us v e.rest b e.next r;
}

-- Some values whose encodings the bytes are.
pub record SomeElements {V : Type 0} (Reads : List ℕ → V → Type 0) (bytes : List ℕ) : Type 0 where
  pub values : List V
  pub are : Elements Reads values bytes

-- The values that were read, and what any values leave for the rest.
pub record ReadSoFar {V : Type 0} (Reads : List ℕ → V → Type 0) (bytes rest : List ℕ) (vs : List V) : Type 0 where
  pub front : List ℕ
  pub is : bytes ≡ front ++ rest
  pub elements : Elements Reads vs front
  pub others : (ws : List V) → Elements Reads ws bytes → SomeElements Reads rest

pub none_read : {V : Type 0} (Reads : List ℕ → V → Type 0) (bytes rest : List ℕ) → rest ≡ bytes → ReadSoFar Reads bytes rest []
none_read Reads bytes rest e = record {
  front = [];
  is = sym e;
  elements = refl;
  others = λ ws are. record { values = ws; are = rw e are };
}

behind : {V : Type 0} (Reads : List ℕ → V → Type 0) (s rest : List ℕ) (v : V) (ws : List V) → ((b : List ℕ) (v : V) → Reads b v → IsValue b)
    → Front Reads s rest v → Elements Reads ws s → SomeElements Reads rest
behind Reads s rest v [] law f e = absurd (not_empty f.front rest (law f.front v f.reads) (sym f.is ∙ e))
behind Reads s rest v (w ∷ ws) law f e = record { values = ws; are = (then_same Reads (Elements Reads ws) s rest v w law f e).next }

pub one_read : {V : Type 0} (Reads : List ℕ → V → Type 0) (bytes s rest : List ℕ) (vs : List V) (v : V) → ((b : List ℕ) (v : V) → Reads b v → IsValue b)
    → ReadSoFar Reads bytes s vs → Front Reads s rest v → ReadSoFar Reads bytes rest (vs ++ v ∷ [])
one_read Reads bytes s rest vs v law so f = record {
  front = so.front ++ f.front;
  is = so.is ∙ ap (λ (x : List ℕ). so.front ++ x) f.is ∙ sym (append_assoc so.front f.front rest);
  elements = elements_push Reads vs v so.front f.front so.elements f.reads;
  others = λ ws are. let left = so.others ws are in behind Reads s rest v left.values law f left.are;
}

pub all_read : {V : Type 0} (Reads : List ℕ → V → Type 0) (bytes rest : List ℕ) (vs : List V) → ReadSoFar Reads bytes rest vs → rest ≡ []
    → Elements Reads vs bytes
all_read Reads bytes rest vs so e =
    let whole : bytes ≡ so.front = so.is ∙ ap (λ (x : List ℕ). so.front ++ x) e ∙ append-nil so.front in
    rw whole so.elements

none_at : {V : Type 0} (Reads : List ℕ → V → Type 0) (s : List ℕ) (ws : List V) → (s ≡ [] → ⊥) → NoFront Reads s → Elements Reads ws s → ⊥
none_at Reads s [] more none e = more e
none_at Reads s (w ∷ ws) more none e = then_none Reads (Elements Reads ws) s w none e

pub no_elements : {V : Type 0} (Reads : List ℕ → V → Type 0) (bytes s : List ℕ) (vs ws : List V) → ReadSoFar Reads bytes s vs → (s ≡ [] → ⊥)
    → NoFront Reads s → Elements Reads ws bytes → ⊥
no_elements Reads bytes s vs ws so more none e = let left = so.others ws e in none_at Reads s left.values more none left.are
