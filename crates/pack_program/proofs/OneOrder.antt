-- The words of a command line are one order at most.
use Rattle.std.proofs.Common.{◌≡◌, ◌∙◌, ℕ, List, [], get_or, sym, ap}
use Rattle.std.proofs.lemmas.Fmt.{decimal_injective}
use Rattle.pack_program.specs.Words.{Order, WordsAreOneOrder}

at : (k : ℕ) (words other : List (List ℕ)) → words ≡ other → get_or words k [] ≡ get_or other k []
at k words other e = ap (λ l. get_or l k []) e

-- words that are two orders name one manifest and one width
pub one_order : WordsAreOneOrder
one_order words a b p q =
    let of_manifest : List ℕ → Order = λ m. record { manifest = m; width = a.width } in
    let of_width : ℕ → Order = λ w. record { manifest = b.manifest; width = w } in
    ap of_manifest (sym (at 1 words _ p.0) ∙ at 1 words _ q.0)
    ∙ ap of_width (decimal_injective a.width b.width p.1 q.1 (sym (at 2 words _ p.0) ∙ at 2 words _ q.0))
