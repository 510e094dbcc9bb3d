use Rattle.std.proofs.Common.{ℕ, ap, nat_eq}
use Rattle.pack_manifest.proofs.Members.{count_is_length}
use Rattle.pack_manifest.proofs.manifest.has_members.Goals as goal

pub returns-in-Some : goal.returns-in-Some
returns-in-Some c = rw (← c.in-Some.ensures, count_is_length) (ap (λ (n : ℕ). nat_eq n c.args.count) c.len.ensures.len)
