-- What rules that hold were tried on.
use Rattle.std.proofs.Common.{◌≡◌, Bool, true, false, Result, Ok, Err, refl, if◌then◌else◌}
use Rattle.spiffe_id.specs.Rules.{map_ok, then_ok}
use Rattle.identity_update.specs.Verdict.{map_refusal}

-- the value that the first rules gave, and what the next ones made of it
pub record Followed {A B E : Type 0} (r : Result A E) (next : A → Result B E) (b : B) : Type 0 where
  pub value : A
  pub is : r ≡ Ok value
  pub gives : next value ≡ Ok b

pub then_inverse : {A B E : Type 0} (r : Result A E) (next : A → Result B E) (b : B) → then_ok r next ≡ Ok b → Followed r next b
then_inverse (Ok a) next b e = record { value = a; is = refl; gives = e }
then_inverse (Err x) next b e = cc

pub record Mapped {A B E : Type 0} (r : Result A E) (f : A → B) (b : B) : Type 0 where
  pub value : A
  pub is : r ≡ Ok value
  pub same : f value ≡ b

pub map_inverse : {A B E : Type 0} (r : Result A E) (f : A → B) (b : B) → map_ok f r ≡ Ok b → Mapped r f b
map_inverse (Ok a) f b e = record { value = a; is = refl; same = cc }
map_inverse (Err x) f b e = cc

pub refusal_inverse : {A E F : Type 0} (f : E → F) (r : Result A E) (a : A) → map_refusal f r ≡ Ok a → r ≡ Ok a
refusal_inverse f (Ok x) a e = cc
refusal_inverse f (Err x) a e = cc

-- a rule that refuses where a test holds
pub else_inverse : {A E : Type 0} (b : Bool) (x : E) (r : Result A E) (a : A) → (if b then Err x else r) ≡ Ok a → r ≡ Ok a
else_inverse true x r a e = cc
else_inverse false x r a e = e

-- a rule that goes on where a test holds
pub record Passed {A E : Type 0} (b : Bool) (r : Result A E) (a : A) : Type 0 where
  pub test : b ≡ true
  pub gives : r ≡ Ok a

pub if_inverse : {A E : Type 0} (b : Bool) (r : Result A E) (x : E) (a : A) → (if b then r else Err x) ≡ Ok a → Passed b r a
if_inverse true r x a e = record { test = refl; gives = e }
if_inverse false r x a e = cc
