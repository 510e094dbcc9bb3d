use Rattle.std.proofs.Common.{◌≡◌, ◌++◌, length}
use Rattle.std.specs.List.{flat_map}
use Rattle.kamzirda_c.specs.Updates.{entries_at, entry_bytes}
use Rattle.kamzirda_c.proofs.parts.append_entries.Given as goal

abbrev pub invariant-loop-identity : goal.invariant-loop-identity
invariant-loop-identity l = record {
  bytes : l.out.items ++ flat_map entry_bytes l.identity-iterator ≡ l.fn.out.items ++ flat_map entry_bytes l.fn.entries;
  told : l.told.items ++ entries_at (length l.out.items) l.identity-iterator ≡ entries_at (length l.fn.out.items) l.fn.entries;
}
