-- What stands behind the part of an output that was written.
use Rattle.std.proofs.Common.{◌≡◌, ℕ, ◌+◌, ◌≤◌, List, ◌++◌, length, drop, arith, ap, sym, ◌∙◌}
use Rattle.std.proofs.lemmas.List.{drop-drop, drop_at}
use Rattle.std.proofs.lemmas.Slice.{drop-put_mid}
use borrow.Rule.Slice.PartMut.{put_mid}

-- a part that was written behind a front
pub rest_kept : (dst now copied : List ℕ) (a k n : ℕ) → drop a now ≡ drop a dst → a ≤ length now → length copied ≡ k → n ≡ a + k
    → drop n (put_mid a k now copied) ≡ drop n dst
rest_kept dst now copied a k n kept low len is =
    drop-put_mid a k now copied n (omega arith) low len ∙ ap (λ i. drop i now) is ∙ sym (drop-drop k a now) ∙ ap (drop k) kept ∙ drop-drop k a dst
    ∙ ap (λ i. drop i dst) (sym is)

-- a front that was written
pub front_kept : (t dst now : List ℕ) (m a : ℕ) → now ≡ t ++ drop m dst → length t ≡ a → m ≡ a → drop a now ≡ drop a dst
front_kept t dst now m a now_is len is = ap (drop a) now_is ∙ drop_at t (drop m dst) a len ∙ ap (λ i. drop i dst) is
