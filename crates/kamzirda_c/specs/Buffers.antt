-- What stands in the buffers of a caller.
use Rattle.std.specs.Prelude.{◌≡◌, ◌⊎◌, ◌≤◌, ◌<◌, ℕ, List, length, take, drop}
use Rattle.kamzirda_c.specs.declared.buffers.KamzirdaRoom.{KamzirdaRoom}

-- the first bytes of a buffer, so many, are the content, and those behind them are as they were
pub record Written {A : Type 0} (old new : List A) (len : ℕ) (content : List A) : Type 0 where
  pub within : len ≤ length old
  pub front : take len new ≡ content
  pub rest : drop len new ≡ drop len old

-- the content has no room in a buffer, which is as it was; the length that it wants is told
pub record Wanting {A : Type 0} (old new : List A) (len : ℕ) (content : List A) : Type 0 where
  pub short : length old < length content
  pub wanted : len ≡ length content
  pub same : new ≡ old

-- elements and bytes stand at the fronts of two buffers, and it is told how many
pub record WrittenBoth {A : Type 0} (old new : List A) (bytes_old bytes_new : List ℕ) (room : KamzirdaRoom) (told : List A) (laid : List ℕ) : Type 0 where
  pub array : Written old new room.count told
  pub buffer : Written bytes_old bytes_new room.bytes laid

-- one of two buffers is too short for them; how many they are is told
pub record WantingBoth {A : Type 0} (old : List A) (bytes_old : List ℕ) (room : KamzirdaRoom) (told : List A) (laid : List ℕ) : Type 0 where
  pub short : (length old < length told) ⊎ (length bytes_old < length laid)
  pub array : room.count ≡ length told
  pub buffer : room.bytes ≡ length laid
