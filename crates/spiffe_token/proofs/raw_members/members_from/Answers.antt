use Rattle.spiffe_token.proofs.Steps.{members_none, went_on, ended, stopped}
use Rattle.spiffe_token.proofs.raw_members.members_from.Goals as goal

pub returns-in_default : goal.returns-in_default
returns-in_default c =
    let i = c.members.invariant in
    rw (i.3, members_none i.0 c.args.total c.members.rest.now (rw c.in_default.is at c.in_ok-front.ensures.value))

pub members-preserved : goal.members-preserved
members-preserved c =
    let i = c.members.invariant in
    went_on i.0 c.args.total c.members.rest.now c.in-Some.after.now c.members.found.items c.push.new.self.items c.in-Some.member _ i.1 i.3
    (rw c.in-Some.is at c.in_ok-front.ensures.value) c.in_ok-push.ensures.items
    c.in-Another.next.now c.in-Another.ensures.value c.in-Another.ensures.shorter (rw c.in-Some.is at c.in_ok-front.ensures.shorter) i.2

pub returns-in-End : goal.returns-in-End
returns-in-End c =
    let i = c.members.invariant in
    ended i.0 c.args.total c.members.rest.now c.in-Some.after.now c.members.found.items c.push.new.self.items c.in-Some.member _ i.1 i.3
    (rw c.in-Some.is at c.in_ok-front.ensures.value) c.in_ok-push.ensures.items c.in-End.ensures.value

pub returns-in-NoObject : goal.returns-in-NoObject
returns-in-NoObject c =
    let i = c.members.invariant in
    stopped i.0 c.args.total c.members.rest.now c.in-Some.after.now c.members.found.items c.push.new.self.items c.in-Some.member _ i.1 i.3
    (rw c.in-Some.is at c.in_ok-front.ensures.value) c.in_ok-push.ensures.items c.in-NoObject.ensures.value
