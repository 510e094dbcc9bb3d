use Rattle.std.proofs.Common.{rules, sym, ◌∙◌}
use Rattle.der_core.specs.Laws.{tagged_reads_encoding}
use Rattle.der_core.specs.Tags.{tag_48}
use Rattle.spki.specs.AlgorithmLaws.{algorithm_reads_content}
use Rattle.pkcs8.proofs.Keys.{tagged_value}
use Rattle.pkcs8.proofs.WrittenAlike.{written_alike}
use Rattle.pkcs8.proofs.laws.read_keys_are_written_alike.Goals as goal

pub returns : goal.returns
returns g c = λ same bytes v w r s.
    written_alike _ _
    (record { algorithm = tagged_value 48 _ tag_48; private_key = tagged_value g.Key.FixedTag.tag _ g.Key.FixedTag.tag_is_valid })
    (record {
      algorithm = tagged_reads_encoding 48 _ _ (algorithm_reads_content g.Params.Decode.Reads g.Params.Encode.encoding
          (g.met.Params.Lawful c.lifetimes (search rules)).reads_encoding);
      private_key = tagged_reads_encoding g.Key.FixedTag.tag _ _ (g.met.Key.LawfulValue c.lifetimes (search rules)).reads_content;
      attributes = (g.met.Attrs.LawfulValue c.lifetimes (search rules)).reads_content;
      public_key = λ content k h. (g.met.PubKey.LawfulValue c.lifetimes (search rules)).reads_content content k h ∙ sym (same k);
    })
    bytes v w r s
