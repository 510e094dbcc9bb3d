use Rattle.std.proofs.Common.{◌≡◌, drop, ap}
use Rattle.identity_source.proofs.Steps.{shows_next, replaces_at}
use Rattle.identity_source.proofs.publish.publish.Goals as goal

pub show-requires : goal.show-requires
show-requires g c next is =
    let w = c.append.new.self in let o = c.args.writer.now in
    let same : next ≡ c.args.next = replaces_at w.desk.shown.value next (drop w.behind w.log.items) (drop o.behind o.log.items) c.args.next is
    c.in-Ok.ensures.pending in
    shows_next _ _ o.desk.shown.value w.desk.shown.value c.args.next next (ap (λ d. d.shown.value) c.in-Ok.ensures.desk) same c.requires.0 c.requires.1
