-- A reader that was told of its source's list.
use Rattle.std.proofs.Common.{◌≡◌, ◌<◌, ◌≤◌, Bool, true, false, cond, nat_le, List, length, length-append, All, [], ◌∷◌, ◌++◌, get_or, ap, subst, ◌∙◌, ⊎_elim}
use Rattle.std.proofs.Common.{arith}
use Rattle.std.proofs.lemmas.List.{get_or_append_left}
use Rattle.std.proofs.lemmas.Bool.Decides.{leb_tells}
use Rattle.identity_source.specs.State.{PlainState, opening}
use Rattle.identity_source.specs.Sight.{longer}
use Rattle.tool_watch.specs.Applied.{IsList}
use Rattle.tool_watch.proofs.Lists.{last_place}

-- what holds of each element holds of each of a first part
pub all_front : {X : Type 0} (P : X → Type 0) (whole front back : List X) → whole ≡ front ++ back → All P whole → All P front
all_front P whole front back is h = λ k d low.
    let inside : k < length whole = omega (arith, low, ap length is, length-append front back) in
    subst P (ap (λ l. get_or l k d) is ∙ get_or_append_left front back d k low) (h k d inside)

-- the source's list is the longer one
pub told_list : (own list : List PlainState) → own ≡ opening 0 ∷ [] → IsList list → longer own list ≡ list
told_list own list is h =
    ⊎_elim
    (λ (t : (nat_le (length own) (length list) ≡ true) × (length own ≤ length list)). ap (λ (b : Bool). cond b list own) t.0)
    (λ (t : (nat_le (length own) (length list) ≡ false) × (length list < length own)). absurd (omega (arith, ap length is, last_place list h)))
    (leb_tells (length own) (length list))
