use Rattle.std.proofs.Common.{◌≡◌, ◌≤◌, vec_capacity, vec_len}
use Rattle.identity_source.specs.History.{last_revision}
use Rattle.tool_watch.specs.Seen.{Rises, last_of}
use Rattle.tool_watch.proofs.working.look_all.Given as goal

abbrev pub invariant-loop-query : goal.invariant-loop-query
invariant-loop-query g l = record {
  many : vec_len l.seen ≡ l.query;
  rise : Rises (last_revision l.fn.job.reader.list) l.seen.items;
  low : last_of (last_revision l.fn.job.reader.list) l.seen.items ≤ last_revision l.reader.list;
  room : l.queries ≤ vec_capacity l.seen;
}
