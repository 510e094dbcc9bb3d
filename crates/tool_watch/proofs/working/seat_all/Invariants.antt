use Rattle.std.proofs.Common.{◌≡◌, ◌+◌, All, [], ◌∷◌, vec_len}
use Rattle.identity_source.specs.State.{opening}
use Rattle.tool_watch.specs.Seen.{IsReady}
use Rattle.tool_watch.proofs.working.seat_all.Given as goal

abbrev pub invariant-loop-reader : goal.invariant-loop-reader
invariant-loop-reader l = record {
  count : vec_len l.readers + vec_len l.jobs ≡ vec_len l.initial.readers;
  opened : All (λ r. (r.sight.name ≡ l.fn.source.name) × (r.list ≡ opening 0 ∷ [])) l.readers.items;
  ready : All (IsReady l.fn.source.list l.queries) l.jobs.items;
  same : l.source ≡ l.fn.source;
}

abbrev pub decreases-loop-reader : goal.decreases-loop-reader
decreases-loop-reader l = vec_len l.readers
