-- How a script is gathered.
use Rattle.std.proofs.Common.{◌≡◌, ℕ, ◌+◌, ◌-◌, ◌≤◌, List, length, [], ◌∷◌, ◌++◌, None, Some, IfSome, refl, sym, ◌∙◌, ap, subst, arith, length-append, flat_map}
use Rattle.std.proofs.lemmas.List.Elements.{All-push}
use Rattle.std.specs.declared.option.Option.{Option}
use Rattle.std.specs.Io.KnownBytes.{Consumes, prepend_known}
use Rattle.identity_io.proofs.Known.{consumes_more}
use Rattle.tool_script.specs.Request.{PlainRequest, spelled, text_size, IsRequest}
use Rattle.tool_script.specs.Request.PlainRequest.{Update, Svid, Bundle}
use Rattle.tool_script.specs.Script.{EndsAs, WatchScript, joint_room}
use Rattle.tool_script.specs.declared.request.Ending.{Ending}
use Rattle.tool_script.proofs.Rooms.{all_have_room, sizes_snoc}
use Rattle.tool_script.proofs.Sessions.{none_taken, spelled_snoc}
use Rattle.tool_watch.specs.Asked.{updates_of, queries_of, Gathered, IsScript}
use Rattle.tool_watch.specs.declared.asked.Query.{Query}
use Rattle.tool_watch.specs.declared.asked.Query.TheVariants as query

updates_snoc : (rs : List PlainRequest) (q : PlainRequest) → updates_of (rs ++ q ∷ []) ≡ updates_of rs ++ updates_of (q ∷ [])
updates_snoc [] q = refl
updates_snoc (Update text ∷ rs) q = ap (λ l. Update text ∷ l) (updates_snoc rs q)
updates_snoc (Svid ∷ rs) q = updates_snoc rs q
updates_snoc (Bundle name domain ∷ rs) q = updates_snoc rs q

queries_snoc : (rs : List PlainRequest) (q : PlainRequest) → queries_of (rs ++ q ∷ []) ≡ queries_of rs ++ queries_of (q ∷ [])
queries_snoc [] q = refl
queries_snoc (Update text ∷ rs) q = queries_snoc rs q
queries_snoc (Svid ∷ rs) q = ap (λ l. query.Svid ∷ l) (queries_snoc rs q)
queries_snoc (Bundle name domain ∷ rs) q = ap (λ l. query.Bundle domain ∷ l) (queries_snoc rs q)

-- nothing was taken yet
pub begun : (left : Option (List ℕ)) (ahead : List ℕ) (updates : List PlainRequest) (queries : List Query) → ahead ≡ [] → updates ≡ [] → queries ≡ []
    → Gathered left (prepend_known ahead left) 0 16777216 updates queries
begun left ahead updates queries empty none_yet none_asked =
    record {
      requests = [];
      taken = subst (λ (a : List ℕ). Consumes left (prepend_known a left) []) (sym empty) (none_taken left);
      lawful = λ k d low. absurd (omega (arith, low));
      counted = refl;
      room = refl;
      updates_are = none_yet;
      queries_are = none_asked;
    }

-- a request is taken
pub one_more : (left now now' : Option (List ℕ)) (count most size : ℕ) (updates updates' : List PlainRequest) (queries queries' : List Query)
    (q : PlainRequest) → Gathered left now count most updates queries
    → Consumes now now' (spelled q) → IsRequest q → text_size q ≤ most → size ≡ text_size q → updates' ≡ updates ++ updates_of (q ∷ [])
    → queries' ≡ queries ++ queries_of (q ∷ [])
    → Gathered left now' (count + 1) (most - size) updates' queries'
one_more left now now' count most size updates updates' queries queries' q p taken lawful fits sized more asked =
    record {
      requests = p.requests ++ q ∷ [];
      taken = subst (λ (l : List ℕ). Consumes left now' l) (sym (spelled_snoc p.requests q))
          (consumes_more left now now' (flat_map spelled p.requests) (spelled q) p.taken taken);
      lawful = All-push IsRequest p.requests q p.lawful lawful;
      counted = omega (arith, p.counted, length-append p.requests (q ∷ []));
      room = omega (arith, p.room, sizes_snoc p.requests q);
      updates_are = more ∙ (ap (λ l. l ++ updates_of (q ∷ [])) p.updates_are ∙ sym (updates_snoc p.requests q));
      queries_are = asked ∙ (ap (λ l. l ++ queries_of (q ∷ [])) p.queries_are ∙ sym (queries_snoc p.requests q));
    }

-- the script ends
pub ended : (left now : Option (List ℕ)) (count most : ℕ) (updates : List PlainRequest) (queries : List Query) (e : Ending)
    → Gathered left now count most updates queries → count ≤ 10000
    → IfSome now (λ bytes. EndsAs count most bytes e)
    → IfSome left (λ bytes. (requests : List PlainRequest) ×
    (WatchScript bytes requests e × ((updates ≡ updates_of requests) × (queries ≡ queries_of requests))))
ended None now count most updates queries e p few f = tt
ended (Some xs) None count most updates queries e p few f = absurd p.taken
ended (Some xs) (Some ys) count most updates queries e p few f =
    let room : most ≡ joint_room p.requests = omega (arith, p.room) in (
      p.requests,
      (
        record {
          front = record {
            rest = ys;
            whole = p.taken;
            lawful = p.lawful;
            few = omega (arith, p.counted);
            fit =
                all_have_room [] p.requests (omega (arith, p.room));
          };
          ends = subst (λ (m : ℕ). EndsAs (length p.requests) m ys e) room (subst (λ (n : ℕ). EndsAs n most ys e) (sym p.counted) f);
        },
        (p.updates_are, p.queries_are),
      ),
    )

-- what was gathered of it is left out
pub unasked : (left : Option (List ℕ)) (updates : List PlainRequest) (queries : List Query) (e : Ending)
    → IfSome left (λ bytes. (requests : List PlainRequest) ×
    (WatchScript bytes requests e × ((updates ≡ updates_of requests) × (queries ≡ queries_of requests)))) → IsScript left e
unasked None updates queries e p = tt
unasked (Some xs) updates queries e p = (p.0, p.1.0)
