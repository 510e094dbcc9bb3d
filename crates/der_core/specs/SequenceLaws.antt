-- Fields in order: what reading one field after another says of the whole, and what is written of them.
use Rattle.std.proofs.Common.{◌≡◌, ◌↔◌, ℕ, ◌<◌, ◌≤◌, ◌^◌, List, [], ◌++◌, length, Bool, true, false, refl, sym, ap, subst, ◌∙◌, append-nil, length-append}
use Rattle.std.proofs.Math.Nat.{le-add_left, le-add_right, lt_of_le_of_lt}
use Rattle.der_core.specs.Der.{IsTag, IsValue, encode}
use Rattle.der_core.specs.Decode.{Front, NoFront, Trails, ReadsTagged, ReadsAny}
use Rattle.der_core.specs.Sequence.{Then, Last, TwoFields, ThreeFields}
use Rattle.der_core.specs.ValueLaws.{same_value, values_unique}
use Rattle.der_core.specs.Readings.{AreReadBack, AreValues, AreWritten}

-- Parts of a list are no longer than the list.
pub front_fits : (a b : List ℕ) → length (a ++ b) < 2 ^ 32 → length a < 2 ^ 32
front_fits a b fits = let P : ℕ → Type 0 = λ n. length a ≤ n in lt_of_le_of_lt (subst P (sym (length-append a b)) (le-add_right (length a) (length b))) fits

pub rest_fits : (a b : List ℕ) → length (a ++ b) < 2 ^ 32 → length b < 2 ^ 32
rest_fits a b fits = let P : ℕ → Type 0 = λ n. length b ≤ n in lt_of_le_of_lt (subst P (sym (length-append a b)) (le-add_left (length b) (length a))) fits

-- Where a test says no, what it tests for does not hold.
pub unless : {P : Type 0} (b : Bool) → (b ≡ true) ↔ P → b ≡ false → P → ⊥
unless true iff e p = cc
unless false iff e p = let is : false ≡ true = iff.1 p in cc

-- What is read with one value of the profile for each encoding, and one value for each of these.
pub record ReadsOne {P : Type 0} (Reads : List ℕ → P → Type 0) : Type 0 where
  pub value : (b : List ℕ) (v : P) → Reads b v → IsValue b
  pub one : (b : List ℕ) (v w : P) → Reads b v → Reads b w → v ≡ w

-- The answers of reading all of the bytes exclude one another.
pub no_front_of : {P : Type 0} (Reads : List ℕ → P → Type 0) (bytes : List ℕ) (v : P) → Reads bytes v → NoFront Reads bytes → ⊥
no_front_of Reads bytes v r none = none bytes [] v r (sym (append-nil bytes))

pub no_trail_of : {P : Type 0} (Reads : List ℕ → P → Type 0) → ReadsOne Reads →
    (bytes : List ℕ) (v : P) (decoded remaining : ℕ) → Reads bytes v → Trails Reads bytes decoded remaining → ⊥
no_trail_of Reads law bytes v decoded remaining r t =
    t.some_rest (values_unique t.front t.rest bytes [] (law.value t.front t.value t.reads) (law.value bytes v r) (sym t.is ∙ sym (append-nil bytes))).1

pub no_trail_front : {P : Type 0} (Reads : List ℕ → P → Type 0) (bytes : List ℕ) (decoded remaining : ℕ) →
    NoFront Reads bytes → Trails Reads bytes decoded remaining → ⊥
no_trail_front Reads bytes decoded remaining none t = none t.front t.rest t.value t.reads t.is

pub same_trail : {P : Type 0} (Reads : List ℕ → P → Type 0) → ReadsOne Reads → (bytes : List ℕ) (d r d' r' : ℕ) →
    Trails Reads bytes d r → Trails Reads bytes d' r' → (d ≡ d') × (r ≡ r')
same_trail Reads law bytes d r d' r' t u =
    let same = values_unique t.front t.rest u.front u.rest (law.value t.front t.value t.reads) (law.value u.front u.value u.reads) (sym t.is ∙ u.is) in
    (t.decoded_is ∙ ap (λ (x : List ℕ). length x) same.0 ∙ sym u.decoded_is, t.remaining_is ∙ ap (λ (x : List ℕ). length x) same.1 ∙ sym u.remaining_is)

-- What follows a field that was read.
pub record SameFront {V : Type 0} (Reads : List ℕ → V → Type 0) (Next : List ℕ → Type 0) (front rest : List ℕ) (v : V) : Type 0 where
  pub reads : Reads front v
  pub next : Next rest

-- The field that was read is the one that the grammar speaks of, and what follows it too.
pub then_same : {V : Type 0} (Reads : List ℕ → V → Type 0) (Next : List ℕ → Type 0) (s rest : List ℕ) (w v : V) →
    AreValues Reads → (f : Front Reads s rest w) → Then Reads Next s v → SameFront Reads Next f.front rest v
then_same Reads Next s rest w v law f t =
    let both = values_unique f.front rest t.front t.rest (law f.front w f.reads) (law t.front v t.reads) (sym f.is ∙ t.is) in
    record { reads = rw both.0 t.reads; next = rw both.1 t.next }

-- Where no field of the type stands, there is none of the grammar.
pub then_none : {V : Type 0} (Reads : List ℕ → V → Type 0) (Next : List ℕ → Type 0) (s : List ℕ) (v : V) → NoFront Reads s → Then Reads Next s v → ⊥
then_none Reads Next s v none t = none t.front t.rest v t.reads t.is

-- What follows a field that was read as a value of any tag.
pub record SameField {V : Type 0} (tag : ℕ) (content rest : List ℕ) (fixed : ℕ) (HasContent : List ℕ → V → Type 0) (Next : List ℕ → Type 0) (v : V) : Type 0
  where
    pub tag_is : tag ≡ fixed
    pub has : HasContent content v
    pub next : Next rest

-- The same of a field that was read as a value of any tag.
pub field_same :
    {V : Type 0} (HasContent : List ℕ → V → Type 0) (Next : List ℕ → Type 0) (fixed : ℕ) (s front rest : List ℕ) (tag : ℕ) (content : List ℕ) (v : V) →
    IsTag fixed → IsTag tag → ReadsAny front tag content → s ≡ front ++ rest →
    Then (ReadsTagged fixed HasContent) Next s v → SameField tag content rest fixed HasContent Next v
field_same H Next fixed s front rest tag content v t' t any is then =
    let r = then.reads in
    let fits : length (encode fixed r.content) < 2 ^ 32 = rw (← r.is) r.fits in
    let fits' : length (encode tag content) < 2 ^ 32 = rw (← any.is) any.fits in
    let whole : encode tag content ++ rest ≡ encode fixed r.content ++ then.rest =
    sym (ap (λ (x : List ℕ). x ++ rest) any.is) ∙ sym is ∙ then.is ∙ ap (λ (x : List ℕ). x ++ then.rest) r.is in
    let same = same_value tag content rest fixed r.content then.rest t fits' t' fits whole in
    record { tag_is = same.tags; has = rw same.contents r.has; next = rw same.rests then.next }

-- Where the whole is one value, nothing follows the value at its front.
pub one_front : {V : Type 0} (Reads : List ℕ → V → Type 0) (s rest : List ℕ) (v w : V) → AreValues Reads → Front Reads s rest v → Reads s w → rest ≡ []
one_front Reads s rest v w law f r =
    (values_unique f.front rest s [] (law f.front v f.reads) (law s w r) (sym f.is ∙ sym (append-nil s))).1

-- Two fields, of which the second cannot be read.
pub no_second_of_two : {A B : Type 0} (RA : List ℕ → A → Type 0) (RB : List ℕ → B → Type 0) → AreValues RA →
    (s s1 : List ℕ) (x : A) → Front RA s s1 x → NoFront RB s1 → (a : A) (b : B) → TwoFields RA RB s a b → ⊥
no_second_of_two RA RB valueA s s1 x f none a b t = no_front_of RB s1 b (then_same RA (Last RB b) s s1 x a valueA f t).next none

-- Two fields, and more behind them.
pub more_than_two : {A B : Type 0} (RA : List ℕ → A → Type 0) (RB : List ℕ → B → Type 0) → AreValues RA →
    AreValues RB → (s s1 s2 : List ℕ) (x : A) (y : B) → Front RA s s1 x → Front RB s1 s2 y → (s2 ≡ [] → ⊥) →
    (a : A) (b : B) → TwoFields RA RB s a b → ⊥
more_than_two RA RB valueA valueB s s1 s2 x y f g more a b t = more (one_front RB s1 s2 y b valueB g (then_same RA (Last RB b) s s1 x a valueA f t).next)

-- Three fields, of which the second, or the third, cannot be read, and more behind three.
pub no_second_of_three :
    {A B C : Type 0} (RA : List ℕ → A → Type 0) (RB : List ℕ → B → Type 0) (RC : List ℕ → C → Type 0) →
    AreValues RA → (s s1 : List ℕ) (x : A) → Front RA s s1 x → NoFront RB s1 → (a : A) (b : B) (c : C) →
    ThreeFields RA RB RC s a b c → ⊥
no_second_of_three RA RB RC valueA s s1 x f none a b c t =
    then_none RB (Last RC c) s1 b none (then_same RA (λ after. TwoFields RB RC after b c) s s1 x a valueA f t).next

pub no_third_of_three :
    {A B C : Type 0} (RA : List ℕ → A → Type 0) (RB : List ℕ → B → Type 0) (RC : List ℕ → C → Type 0) →
    AreValues RA → AreValues RB → (s s1 s2 : List ℕ) (x : A) (y : B) → Front RA s s1 x → Front RB s1 s2 y →
    NoFront RC s2 → (a : A) (b : B) (c : C) → ThreeFields RA RB RC s a b c → ⊥
no_third_of_three RA RB RC valueA valueB s s1 s2 x y f g none a b c t =
    no_second_of_two RB RC valueB s1 s2 y g none b c (then_same RA (λ after. TwoFields RB RC after b c) s s1 x a valueA f t).next

pub more_than_three :
    {A B C : Type 0} (RA : List ℕ → A → Type 0) (RB : List ℕ → B → Type 0) (RC : List ℕ → C → Type 0) →
    AreValues RA → AreValues RB → AreValues RC → (s s1 s2 s3 : List ℕ) (x : A) (y : B) (z : C) → Front RA s s1 x →
    Front RB s1 s2 y → Front RC s2 s3 z → (s3 ≡ [] → ⊥) → (a : A) (b : B) (c : C) → ThreeFields RA RB RC s a b c → ⊥
more_than_three RA RB RC valueA valueB valueC s s1 s2 s3 x y z f g h more a b c t =
    more_than_two RB RC valueB valueC s1 s2 s3 y z g h more b c (then_same RA (λ after. TwoFields RB RC after b c) s s1 x a valueA f t).next

-- Where each field is read exactly from its encoding, so are two and three.
pub two_written :
    {A B : Type 0} (RA : List ℕ → A → Type 0) (RB : List ℕ → B → Type 0) (encoding_a : A → List ℕ) (encoding_b : B → List ℕ) →
    AreWritten RA encoding_a → AreWritten RB encoding_b → (bytes : List ℕ) (a : A) (b : B) →
    TwoFields RA RB bytes a b → bytes ≡ encoding_a a ++ encoding_b b
two_written RA RB ea eb la lb bytes a b t =
    t.is ∙ ap (λ (x : List ℕ). x ++ t.rest) (la t.front a t.reads) ∙ ap (λ (x : List ℕ). ea a ++ x) (lb t.rest b t.next)

pub two_read :
    {A B : Type 0} (RA : List ℕ → A → Type 0) (RB : List ℕ → B → Type 0) (encoding_a : A → List ℕ) (encoding_b : B → List ℕ) →
    AreReadBack RA encoding_a → AreReadBack RB encoding_b → (a : A) (b : B) →
    length (encoding_a a ++ encoding_b b) < 2 ^ 32 → TwoFields RA RB (encoding_a a ++ encoding_b b) a b
two_read RA RB ea eb la lb a b fits = record {
  front = ea a;
  rest = eb b;
  is = refl;
  reads = la a (front_fits (ea a) (eb b) fits);
  next = lb b (rest_fits (ea a) (eb b) fits);
}

pub three_written :
    {A B C : Type 0} (RA : List ℕ → A → Type 0) (RB : List ℕ → B → Type 0) (RC : List ℕ → C → Type 0) (encoding_a : A → List ℕ) (encoding_b : B → List ℕ)
    (encoding_c : C → List ℕ) →
    AreWritten RA encoding_a → AreWritten RB encoding_b → AreWritten RC encoding_c →
    (bytes : List ℕ) (a : A) (b : B) (c : C) → ThreeFields RA RB RC bytes a b c →
    bytes ≡ encoding_a a ++ (encoding_b b ++ encoding_c c)
three_written RA RB RC ea eb ec la lb lc bytes a b c t =
    t.is ∙ ap (λ (x : List ℕ). x ++ t.rest) (la t.front a t.reads) ∙ ap (λ (x : List ℕ). ea a ++ x) (two_written RB RC eb ec lb lc t.rest b c t.next)

pub three_read :
    {A B C : Type 0} (RA : List ℕ → A → Type 0) (RB : List ℕ → B → Type 0) (RC : List ℕ → C → Type 0) (encoding_a : A → List ℕ) (encoding_b : B → List ℕ)
    (encoding_c : C → List ℕ) →
    AreReadBack RA encoding_a → AreReadBack RB encoding_b → AreReadBack RC encoding_c → (a : A) (b : B) (c : C) →
    length (encoding_a a ++ (encoding_b b ++ encoding_c c)) < 2 ^ 32 →
    ThreeFields RA RB RC (encoding_a a ++ (encoding_b b ++ encoding_c c)) a b c
three_read RA RB RC ea eb ec la lb lc a b c fits = record {
  front = ea a;
  rest = eb b ++ ec c;
  is = refl;
  reads = la a (front_fits (ea a) (eb b ++ ec c) fits);
  next = two_read RB RC eb ec lb lc b c (rest_fits (ea a) (eb b ++ ec c) fits);
}
