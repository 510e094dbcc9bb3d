-- Requests whose updates have room.
use Rattle.std.proofs.Common.{◌≡◌, ◌+◌, ◌≤◌, List, [], ◌∷◌, ◌++◌, All, arith}
use Rattle.std.proofs.lemmas.List.Elements.{All-head, All-tail}
use Rattle.tool_script.specs.Request.{PlainRequest, text_size, IsRequest}
use Rattle.tool_script.specs.Request.PlainRequest.{Update, Svid, Bundle}
use Rattle.tool_script.specs.Script.{HaveRoom, each_room, joint_room, text_sizes}

size_within : (q : PlainRequest) → IsRequest q → text_size q ≤ 16777216
size_within (Update text) small = small
size_within Svid small = omega arith
size_within (Bundle name domain) lawful = omega arith

-- requests have room where each update has at most 2^24 bytes
pub each_has_room : (before qs : List PlainRequest) → All IsRequest qs → HaveRoom each_room before qs
each_has_room before [] lawful = tt
each_has_room before (q ∷ qs) lawful = (size_within q (All-head IsRequest q qs lawful), each_has_room (before ++ q ∷ []) qs (All-tail IsRequest q qs lawful))

sizes_append : (qs rs : List PlainRequest) → text_sizes (qs ++ rs) ≡ text_sizes qs + text_sizes rs
sizes_append [] rs = omega arith
sizes_append (q ∷ qs) rs = let h : text_sizes (qs ++ rs) ≡ text_sizes qs + text_sizes rs = sizes_append qs rs in omega arith

-- the sizes with one more request
pub sizes_snoc : (qs : List PlainRequest) (q : PlainRequest) → text_sizes (qs ++ q ∷ []) ≡ text_sizes qs + text_size q
sizes_snoc qs q = let h : text_sizes (qs ++ q ∷ []) ≡ text_sizes qs + text_sizes (q ∷ []) = sizes_append qs (q ∷ []) in omega arith

-- requests have room where all updates together have at most 2^24 bytes
pub all_have_room : (before qs : List PlainRequest) → text_sizes before + text_sizes qs ≤ 16777216 → HaveRoom joint_room before qs
all_have_room before [] within = tt
all_have_room before (q ∷ qs) within =
    let more : text_sizes (before ++ q ∷ []) ≡ text_sizes before + text_size q = sizes_snoc before q in
    (omega arith, all_have_room (before ++ q ∷ []) qs (omega arith))
