-- The types behind a `&mut` that a result borrows from, as the logic names them.
use denote.RattleType.{RattleType}
use Rattle.std.specs.Borrow.{u8}
use Rattle.std.specs.contracts.alloc.Global as global
use Rattle.std.specs.contracts.vec.Vec as vec
use Rattle.std.specs.contracts.impls.GlobalAllocator.TheImpl.{ghosts}

-- a vector of bytes
abbrev pub vector_row : RattleType
vector_row = vec.the_row u8 global.the_row ghosts
