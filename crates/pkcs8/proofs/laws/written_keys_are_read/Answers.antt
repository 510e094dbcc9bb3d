use Rattle.std.proofs.Common.{◌<◌, ◌^◌, ℕ, List, length, rules, sym, subst}
use Rattle.der_core.specs.Laws.{tagged_encoding_reads}
use Rattle.spki.specs.AlgorithmLaws.{algorithm_content_reads}
use Rattle.pkcs8.proofs.WrittenKeys.{written_key}
use Rattle.pkcs8.proofs.laws.written_keys_are_read.Goals as goal

pub returns : goal.returns
returns g c = λ same v fits.
    written_key _ _
    (record {
      algorithm = tagged_encoding_reads 48 _ _ (algorithm_content_reads g.Params.Decode.Reads g.Params.Encode.encoding
          (g.met.Params.Lawful c.lifetimes (search rules)).encoding_reads);
      private_key = tagged_encoding_reads g.Key.FixedTag.tag _ _ (g.met.Key.LawfulValue c.lifetimes (search rules)).content_reads;
      attributes = (g.met.Attrs.LawfulValue c.lifetimes (search rules)).content_reads;
      public_key = λ k short. subst (λ (x : List ℕ). g.PubKey.DecodeValue.HasContent x k) (sym (same k))
          ((g.met.PubKey.LawfulValue c.lifetimes (search rules)).content_reads k (subst (λ (x : List ℕ). length x < 2 ^ 32) (same k) short));
    })
    v fits
