use Rattle.std.proofs.Common.{arith}
use Rattle.identity_source.specs.History.{last_revision}
use Rattle.tool_watch.proofs.Workers.{seen_more}
use Rattle.tool_watch.proofs.working.look_all.Goals as goal

pub loop-query-preserved : goal.loop-query-preserved
loop-query-preserved g c =
    let inv = c.loop-query.invariant in
    let more = seen_more (last_revision c.args.job.reader.list) c.loop-query.seen.items c.push_reserved.new.self.items
    (last_revision c.loop-query.reader.list) (last_revision c.look.new.reader.list) c.look.result
    inv.rise inv.low c.look.ensures.rises c.look.ensures.last c.push_reserved.ensures.items in
    record {
      many = omega (arith, inv.many, c.push_reserved.ensures.len);
      rise = more.0;
      low = more.1;
      room = omega (arith, inv.room, c.push_reserved.ensures.capacity);
    }
