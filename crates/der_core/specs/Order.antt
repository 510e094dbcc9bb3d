-- The orders of DER.
use Rattle.std.specs.Prelude.{◌≡◌, ℕ, ◌^◌, ◌&&◌, List, ◌++◌, length, nat_lt, if◌then◌else◌, Option, Some, None, Result, Ok, Err}
use Rattle.std.specs.Hash as fed
use Rattle.std.specs.Hash.{HashWrites}
use Rattle.std.specs.Ordering.{nat_cmp, ordering_then}
use Rattle.std.specs.Cmp.Lexicographic.{slice_cmp}
use Rattle.std.specs.declared.cmp.Ordering.{Ordering}
use Rattle.std.specs.declared.cmp.Ordering.TheVariants.{Less, Equal, Greater}
use Rattle.der_core.specs.Any.{PlainAny}
use Rattle.der_core.specs.declared.error.Error.{Error}
use Rattle.der_core.specs.declared.error.Error.TheVariants as error

-- What a comparison answers. It has no order where it reaches a value whose content is too long.
abbrev pub Compared : Option Ordering → Result Ordering Error → Type 0
Compared None r = r ≡ Err error.Overlength
Compared (Some order) r = r ≡ Ok order

-- The first order, and where it finds no difference the next.
abbrev pub first_then : Ordering → Option Ordering → Option Ordering
first_then Less next = Some Less
first_then Equal next = next
first_then Greater next = Some Greater

-- The same of two orders, of which the first may have none.
abbrev pub and_then : Option Ordering → Option Ordering → Option Ordering
and_then None next = None
and_then (Some order) next = first_then order next

-- By the lengths of two contents, and where they are equally long by the next order.
abbrev pub after_lengths : List ℕ → List ℕ → Option Ordering → Option Ordering
after_lengths a b next =
    if nat_lt (length a) (2 ^ 32) && nat_lt (length b) (2 ^ 32)
    then first_then (nat_cmp (length a) (length b)) next
    else None

-- By the content bytes.
abbrev pub content_order : {V : Type 0} → (V → List ℕ) → V → V → Option Ordering
content_order content a b = Some (slice_cmp nat_cmp (content a) (content b))

-- An absent value is before a present one.
abbrev pub option_order : {V : Type 0} → (V → V → Option Ordering) → Option V → Option V → Option Ordering
option_order order None None = Some Equal
option_order order None (Some b) = Some Less
option_order order (Some a) None = Some Greater
option_order order (Some a) (Some b) = order a b

-- The order of std's lists of bytes, and what a hasher is fed of one.
abbrev pub bytes_order : List ℕ → List ℕ → Ordering
bytes_order a b = slice_cmp nat_cmp a b

abbrev pub bytes_hashed : List ℕ → HashWrites
bytes_hashed bytes = fed.slice fed.u8 bytes

-- A value of any tag: by its tag, and then by its content.
abbrev pub any_order : PlainAny → PlainAny → Ordering
any_order a b = ordering_then (nat_cmp a.tag b.tag) (bytes_order a.content b.content)

abbrev pub any_hashed : PlainAny → HashWrites
any_hashed v = fed.u8 v.tag ++ bytes_hashed v.content
