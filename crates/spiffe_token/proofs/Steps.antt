-- One member further.
use Rattle.std.proofs.Common.{◌≡◌, ◌≤◌, ◌<◌, ℕ, zero, suc, List, [], ◌∷◌, ◌++◌, length, map, Option, Some, None, option_map, refl, ap, arith}
use Rattle.spiffe_token.specs.declared.raw_members.RawMember.{RawMember}
use Rattle.spiffe_token.specs.RawMembers.{raw_of}
use Rattle.spiffe_token.specs.RawMembers.{Raw, member_part, members_from, more_members, what_follows, another, the_end, no_object}

nothing_left : (total : ℕ) (bs : List ℕ) → length bs ≤ 0 → member_part total bs ≡ None
unfolding member_part
nothing_left total [] h = refl
nothing_left total (b ∷ bs) h = absurd (omega arith)

-- the members from here on, by the first
pub members_step : (n total : ℕ) (bs after : List ℕ) (m : Raw) → length bs ≤ n → Some (m, after) ≡ member_part total bs
    → (k : ℕ) × (n ≡ suc k) × (members_from n total bs ≡ more_members (members_from k total) m (what_follows after))
unfolding members_from
members_step zero total bs after m h e = absurd (let none = nothing_left total bs h in cc)
members_step (suc n) total bs after m h e = (n, refl, rw (← e))

pub members_none : (n total : ℕ) (bs : List ℕ) → None ≡ member_part total bs → members_from n total bs ≡ None
unfolding members_from
members_none zero total bs e = refl
members_none (suc n) total bs e = rw (← e)

pub one_further : (found : List RawMember) (m : RawMember) (o : Option (List Raw))
    → option_map (λ ms. map raw_of found ++ ms) (option_map (λ ms. raw_of m ∷ ms) o) ≡ option_map (λ ms. map raw_of (found ++ m ∷ []) ++ ms) o
one_further found m None = refl
one_further found m (Some ms) = ap Some (further found ms)
  where
    further : (found : List RawMember) (ms : List Raw) → map raw_of found ++ raw_of m ∷ ms ≡ map raw_of (found ++ m ∷ []) ++ ms
    further [] ms = refl
    further (x ∷ xs) ms = ap (λ rest. raw_of x ∷ rest) (further xs ms)

module _ (n total : ℕ) (bs after : List ℕ) (found pushed : List RawMember) (m : RawMember) (all : Option (List Raw)) (small : length bs ≤ n)
    (so_far : all ≡ option_map (λ ms. map raw_of found ++ ms) (members_from n total bs)) (is : Some (raw_of m, after) ≡ member_part total bs)
    (push : pushed ≡ found ++ m ∷ []) where
  pub went_on : (next : List ℕ) → another next ≡ what_follows after → length next < length after → length after < length bs → length bs ≤ total
      → (k : ℕ) × (length next ≤ k) × (length next ≤ total) × (all ≡ option_map (λ ms. map raw_of pushed ++ ms) (members_from k total next))
  went_on next follows shorter used within =
      let s = members_step n total bs after (raw_of m) small is in
      let len : length next ≤ s.0 = omega arith in
      (s.0, len, omega arith, rw (so_far, s.2, ← follows, push) (one_further found m (members_from s.0 total next)))

  pub ended : the_end ≡ what_follows after → Some (map raw_of pushed) ≡ all
  ended follows =
      let s = members_step n total bs after (raw_of m) small is in
      rw (so_far, s.2, ← follows, push) (ap Some (map_push found))
    where
      map_push : (found : List RawMember) → map raw_of (found ++ m ∷ []) ≡ map raw_of found ++ raw_of m ∷ []
      map_push [] = refl
      map_push (x ∷ xs) = ap (λ rest. raw_of x ∷ rest) (map_push xs)

  pub stopped : no_object ≡ what_follows after → None ≡ all
  stopped follows =
      let s = members_step n total bs after (raw_of m) small is in
      rw (so_far, s.2, ← follows)
