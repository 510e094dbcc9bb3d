-- How a session goes on, and how it stops.
use Rattle.std.proofs.Common.{◌≡◌, ℕ, ◌+◌, ◌<◌, ◌≤◌, ◌⊎◌, inl, inr, List, length, take, [], ◌∷◌, ◌++◌, None, Some, IfSome, refl, sym, ◌∙◌, ap, subst, arith}
use Rattle.std.proofs.Common.{append_assoc, length-append, flat_map}
use Rattle.std.proofs.lemmas.List.{append-nil}
use Rattle.std.proofs.lemmas.List.Elements.{All-push}
use Rattle.std.proofs.Math.Seq.{take-append-add, take-length}
use Rattle.std.specs.declared.option.Option.{Option}
use Rattle.std.specs.Io.KnownBytes.{Keeps, Consumes, Appends, prepend_known}
use Rattle.identity_io.specs.Causes.{Rose}
use Rattle.identity_io.specs.Whole.{AppendsPrefix}
use Rattle.identity_io.proofs.Known.{consumes_more}
use Rattle.identity_source.specs.State.{PlainState, opening}
use Rattle.command_line.specs.Outcome.{Calm, Streams}
use Rattle.command_line.specs.declared.status.Status.{Status}
use Rattle.command_line.specs.declared.status.Status.TheVariants as status
use Rattle.tool_script.specs.Request.{PlainRequest, spelled, IsRequest}
use Rattle.tool_script.specs.Script.{EndsAs, Front, Script, each_room, HaveOneReading}
use Rattle.tool_script.proofs.Rooms.{each_has_room}
use Rattle.tool_script.specs.Replies.{IsReply, AreReplies}
use Rattle.tool_script.specs.Session.{Progress, WroteReplies, WroteFirst, Served, Serves, EndsWell}
use Rattle.tool_script.specs.declared.request.Ending.{Ending}
use Rattle.tool_script.specs.declared.request.Ending.TheVariants.{Done, TooLong, BadScript}

-- the bytes with one more request
pub spelled_snoc : (rs : List PlainRequest) (q : PlainRequest) → flat_map spelled (rs ++ q ∷ []) ≡ flat_map spelled rs ++ spelled q
spelled_snoc [] q = append-nil (spelled q)
spelled_snoc (r ∷ rs) q = ap (λ l. spelled r ++ l) (spelled_snoc rs q) ∙ sym (append_assoc (spelled r) (flat_map spelled rs) (spelled q))

-- a count that rose since a later moment
pub rose_from : (a b c : ℕ) → a ≤ b → Rose b c → Rose a c
rose_from a b c low rose = omega (arith, low, rose)

-- one more request is answered
pub replies_snoc : (width : ℕ) (list : List PlainState) (qs : List PlainRequest) (mid list' : List PlainState) (text reply : List ℕ) (q : PlainRequest)
    → AreReplies width list qs mid text → IsReply width mid q list' reply → AreReplies width list (qs ++ q ∷ []) list' (text ++ reply)
replies_snoc width list [] mid list' text reply q (same, none) r = (
  list',
  (
    reply,
    (
      [],
      (
        subst (λ (l : List PlainState). IsReply width l q list' reply) same r,
        (refl, refl),
        ap (λ l. l ++ reply) none
            ∙ sym (append-nil reply),
      ),
    ),
  ),
)
replies_snoc width list (p ∷ ps) mid list' text reply q (next, (first, (more, (answer, rest, e)))) r =
    (next, (first, (more ++ reply, (answer, replies_snoc width next ps mid list' more reply q rest r, ap (λ l. l ++ reply) e ∙ append_assoc first more reply))))

appends_two : (a b c : Option (List ℕ)) (x y : List ℕ) → Appends a b x → Appends b c y → Appends a c (x ++ y)
appends_two None b c x y p q = tt
appends_two (Some xs) None c x y p q = absurd p
appends_two (Some xs) (Some ys) None x y p q = absurd q
appends_two (Some xs) (Some ys) (Some zs) x y p q = q ∙ ap (λ l. l ++ y) p ∙ append_assoc xs x y

appends_whole : (a b : Option (List ℕ)) (bs : List ℕ) → Appends a b bs → AppendsPrefix a b bs
appends_whole a b bs p = (length bs, subst (λ (l : List ℕ). Appends a b l) (sym (take-length bs)) p)

-- a part of more is written behind the whole of some
part_more : (a b c : Option (List ℕ)) (xs ys : List ℕ) → Appends a b xs → AppendsPrefix b c ys → AppendsPrefix a c (xs ++ ys)
part_more a b c xs ys p (n, q) =
    (length xs + n, subst (λ (l : List ℕ). Appends a c l) (sym (take-append-add xs ys n)) (appends_two a b c xs (take n ys) p q))

nothing_written : (a : Option (List ℕ)) → Appends a a []
nothing_written None = tt
nothing_written (Some xs) = sym (append-nil xs)

-- nothing was taken yet
pub none_taken : (left : Option (List ℕ)) → Consumes left (prepend_known [] left) []
none_taken None = tt
none_taken (Some xs) = refl

-- nothing was taken yet
pub begun : (width : ℕ) (left w : Option (List ℕ)) (ahead : List ℕ) (list : List PlainState) → ahead ≡ [] → list ≡ opening 0 ∷ []
    → Progress width left (prepend_known ahead left) w w 0 list
begun width left w ahead list empty opened =
    record {
      requests = [];
      taken = subst (λ (a : List ℕ). Consumes left (prepend_known a left) []) (sym empty) (none_taken left);
      lawful = λ k d low. absurd (omega (arith, low));
      counted = refl;
      text = [];
      replies = (opened, refl);
      wrote = nothing_written w;
    }

-- a request is taken and answered
pub one_more : (width : ℕ) (left now now' w w1 w2 : Option (List ℕ)) (count : ℕ) (list list' : List PlainState) (reply : List ℕ) (q : PlainRequest)
    → Progress width left now w w1 count list
    → Consumes now now' (spelled q) → IsRequest q → IsReply width list q list' reply → Appends w1 w2 reply → Progress width left now' w w2 (count + 1) list'
one_more width left now now' w w1 w2 count list list' reply q p taken lawful answer wrote =
    record {
      requests = p.requests ++ q ∷ [];
      taken = subst (λ (l : List ℕ). Consumes left now' l) (sym (spelled_snoc p.requests q))
          (consumes_more left now now' (flat_map spelled p.requests) (spelled q) p.taken taken);
      lawful = All-push IsRequest p.requests q p.lawful lawful;
      counted = omega (arith, p.counted, length-append p.requests (q ∷ []));
      text = p.text ++ reply;
      replies = replies_snoc width (opening 0 ∷ []) p.requests list list' p.text reply q p.replies answer;
      wrote = appends_two w w1 w2 p.text reply p.wrote wrote;
    }

-- the script ends
pub ended : (width : ℕ) (left now w w' : Option (List ℕ)) (count : ℕ) (list : List PlainState) (e : Ending) → Progress width left now w w' count list
    → count ≤ 10000
    → IfSome now (λ bytes. EndsAs count 16777216 bytes e) → IfSome left
    (λ bytes. (requests : List PlainRequest) × (Script bytes requests e × WroteReplies width requests w w'))
ended width None now w w' count list e p few f = tt
ended width (Some xs) None w w' count list e p few f = absurd p.taken
ended width (Some xs) (Some ys) w w' count list e p few f = (
  p.requests,
  (
    record {
      front = record { rest = ys; whole = p.taken; lawful = p.lawful; few = omega (arith, p.counted); fit = each_has_room [] p.requests p.lawful };
      ends = subst (λ (n : ℕ). EndsAs n 16777216 ys e) (sym p.counted) f;
    },
    (list, (p.text, (p.replies, p.wrote))),
  ),
)

taken_more : (left l l' : Option (List ℕ)) (ahead ahead' front : List ℕ) → Consumes left (prepend_known ahead l) front
    → Keeps (prepend_known ahead l) (prepend_known ahead' l') → Consumes left l' (front ++ ahead')
taken_more None l l' ahead ahead' front p k = tt
taken_more (Some xs) None l' ahead ahead' front p k = absurd p
taken_more (Some xs) (Some a) None ahead ahead' front p k = absurd k
taken_more (Some xs) (Some a) (Some b) ahead ahead' front p k = p ∙ ap (λ l. front ++ l) (sym k) ∙ sym (append_assoc front ahead' b)

-- a read fails
pub stopped : (width : ℕ) (left l l' w w' : Option (List ℕ)) (ahead ahead' : List ℕ) (count : ℕ) (list : List PlainState)
    → Progress width left (prepend_known ahead l) w w' count list → count ≤ 10000
    → Keeps (prepend_known ahead l) (prepend_known ahead' l') → EndsAs count 16777216 ahead' BadScript
    → (taken : List ℕ) × (Consumes left l' taken × ((requests : List PlainRequest) × (Script taken requests BadScript × WroteReplies width requests w w')))
stopped width left l l' w w' ahead ahead' count list p few k f = (
  flat_map spelled p.requests ++ ahead',
  (
    taken_more left l l' ahead ahead' (flat_map spelled p.requests) p.taken k,
    (
      p.requests,
      (
        record {
          front = record { rest = ahead'; whole = refl; lawful = p.lawful; few = omega (arith, p.counted); fit = each_has_room [] p.requests p.lawful };
          ends = subst (λ (n : ℕ). EndsAs n 16777216 ahead' BadScript) (sym p.counted) f;
        },
        (list, (p.text, (p.replies, p.wrote))),
      ),
    ),
  ),
)

-- the session stops with all written
pub in_part : (width : ℕ) (left now w w' : Option (List ℕ)) (count : ℕ) (list : List PlainState) → Progress width left now w w' count list → count ≤ 10000
    → IfSome left (λ bytes. (requests : List PlainRequest) × (Front bytes requests × WroteFirst width requests w w'))
in_part width None now w w' count list p few = tt
in_part width (Some xs) None w w' count list p few = absurd p.taken
in_part width (Some xs) (Some ys) w w' count list p few = (
  p.requests,
  (
    record { rest = ys; whole = p.taken; lawful = p.lawful; few = omega (arith, p.counted); fit = each_has_room [] p.requests p.lawful },
    (list, (p.text, (p.replies, appends_whole w w' p.text p.wrote))),
  ),
)

-- a write fails part way through a reply
pub in_reply : (width : ℕ) (left now now' w w1 w2 : Option (List ℕ)) (count : ℕ) (list list' : List PlainState) (reply : List ℕ) (q : PlainRequest)
    → Progress width left now w w1 count list
    → Consumes now now' (spelled q) → IsRequest q → count < 10000 → IsReply width list q list' reply → AppendsPrefix w1 w2 reply
    → IfSome left (λ bytes. (requests : List PlainRequest) × (Front bytes requests × WroteFirst width requests w w2))
in_reply width None now now' w w1 w2 count list list' reply q p taken lawful few answer wrote = tt
in_reply width (Some xs) now None w w1 w2 count list list' reply q p taken lawful few answer wrote =
    absurd (consumes_more (Some xs) now None (flat_map spelled p.requests) (spelled q) p.taken taken)
in_reply width (Some xs) now (Some zs) w w1 w2 count list list' reply q p taken lawful few answer wrote = (
  p.requests ++ q ∷ [],
  (
    record {
      rest = zs;
      whole = subst (λ (l : List ℕ). Consumes (Some xs) (Some zs) l) (sym (spelled_snoc p.requests q))
          (consumes_more (Some xs) now (Some zs) (flat_map spelled p.requests) (spelled q) p.taken taken);
      lawful = All-push IsRequest p.requests q p.lawful lawful;
      few = omega (arith, p.counted, length-append p.requests (q ∷ []));
      fit = each_has_room [] (p.requests ++ q ∷ []) (All-push IsRequest p.requests q p.lawful lawful);
    },
    (
      list',
      (
        p.text ++ reply,
        (
          replies_snoc width (opening 0 ∷ []) p.requests list list' p.text reply q p.replies answer,
          part_more w w1 w2 p.text reply
              p.wrote wrote,
        ),
      ),
    ),
  ),
)

-- a session that did nothing
pub not_begun : (width a b c d : ℕ) (left w : Option (List ℕ))
    → Serves width (record { left = left; read_faults = a; written = w; write_faults = b })
    (record { left = left; read_faults = c; written = w; write_faults = d }) status.OutOfMemory
not_begun width a b c d left w = in_part width left (prepend_known [] left) w w 0 (opening 0 ∷ []) (begun width left w [] (opening 0 ∷ []) refl refl)
    (omega arith)

other_ending : HaveOneReading → (width : ℕ) (before now : Streams) (e : Ending) → Served width before now e → EndsWell before.left → e ≡ Done
other_ending law width before now e served (bytes, (is, (requests, script))) =
    let found : (others : List PlainRequest) × (Script bytes others e × WroteReplies width others before.written now.written) =
    subst (λ (left : Option (List ℕ)). IfSome left (λ bytes. (others : List PlainRequest)
    × (Script bytes others e × WroteReplies width others before.written now.written))) is served in
    (law each_room bytes found.0 requests e Done found.1.0 script).1

-- a session over a script that ends well, in which no fault came
pub ends_well : HaveOneReading → (width : ℕ) (before now : Streams) (s : Status) → Serves width before now s → Calm before.read_faults now.read_faults
    → Calm before.write_faults now.write_faults → EndsWell before.left
    → (s ≡ status.Done) ⊎ (s ≡ status.OutOfMemory)
ends_well law width before now status.Done serves reads writes well = inl refl
ends_well law width before now status.Refused serves reads writes well = absurd serves
ends_well law width before now status.Usage serves reads writes well = absurd serves
ends_well law width before now status.SourceFailed serves reads writes well = absurd (reads serves.0)
ends_well law width before now status.SinkFailed serves reads writes well = absurd (writes serves.0)
ends_well law width before now status.OutOfMemory serves reads writes well = inr refl
ends_well law width before now status.TooLong serves reads writes well = absurd (cc (other_ending law width before now TooLong serves well))
ends_well law width before now status.BadScript serves reads writes well = absurd (cc (other_ending law width before now BadScript serves well))
