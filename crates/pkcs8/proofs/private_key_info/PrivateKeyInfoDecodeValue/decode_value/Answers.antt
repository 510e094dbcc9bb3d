use Rattle.der_core.specs.Decode.{ReadsTagged}
use Rattle.spki.specs.Algorithm.{ReadsAlgorithmIdentifier}
use Rattle.der_core.specs.Tags.{tag_48}
use Rattle.pkcs8.proofs.Keys.{no_version, no_algorithm, no_key, no_end, refused, tagged_value}
use Rattle.pkcs8.proofs.private_key_info.PrivateKeyInfoDecodeValue.decode_value.Goals as goal

pub returns-in_err-version-clause-none : goal.returns-in_err-version-clause-none
returns-in_err-version-clause-none g c =
    refused (record {
      algorithm = ReadsAlgorithmIdentifier g.Params.Decode.Reads;
      private_key = ReadsTagged g.Key.FixedTag.tag g.Key.DecodeValue.HasContent;
      attributes = g.Attrs.DecodeValue.HasContent;
      public_key = g.PubKey.DecodeValue.HasContent;
    }) c.args.cursor.now _
    (no_version _ c.args.cursor.now (rw (c.new-at.ensures, c.rest.ensures) at c.in_err-version.ensures.none))

pub returns-in_err-algorithm-clause-none : goal.returns-in_err-algorithm-clause-none
returns-in_err-algorithm-clause-none g c =
    refused (record {
      algorithm = ReadsAlgorithmIdentifier g.Params.Decode.Reads;
      private_key = ReadsTagged g.Key.FixedTag.tag g.Key.DecodeValue.HasContent;
      attributes = g.Attrs.DecodeValue.HasContent;
      public_key = g.PubKey.DecodeValue.HasContent;
    }) c.args.cursor.now _
    (no_algorithm _ c.args.cursor.now _ _ (rw (c.new-at.ensures, c.rest.ensures) at c.in_ok-version.ensures.value) c.in_err-algorithm.ensures.none)

pub returns-in_err-private_key-clause-none : goal.returns-in_err-private_key-clause-none
returns-in_err-private_key-clause-none g c =
    refused (record {
      algorithm = ReadsAlgorithmIdentifier g.Params.Decode.Reads;
      private_key = ReadsTagged g.Key.FixedTag.tag g.Key.DecodeValue.HasContent;
      attributes = g.Attrs.DecodeValue.HasContent;
      public_key = g.PubKey.DecodeValue.HasContent;
    }) c.args.cursor.now _
    (no_key _ (record { algorithm = tagged_value 48 _ tag_48; private_key = tagged_value g.Key.FixedTag.tag _ g.Key.FixedTag.tag_is_valid })
    c.args.cursor.now _ _ _ _ (rw (c.new-at.ensures, c.rest.ensures) at c.in_ok-version.ensures.value) c.in_ok-algorithm.ensures.value
    c.in_err-private_key.ensures.none)

pub returns-in_err-tail-clause-none : goal.returns-in_err-tail-clause-none
returns-in_err-tail-clause-none g c =
    refused (record {
      algorithm = ReadsAlgorithmIdentifier g.Params.Decode.Reads;
      private_key = ReadsTagged g.Key.FixedTag.tag g.Key.DecodeValue.HasContent;
      attributes = g.Attrs.DecodeValue.HasContent;
      public_key = g.PubKey.DecodeValue.HasContent;
    }) c.args.cursor.now _
    (no_end _ (record { algorithm = tagged_value 48 _ tag_48; private_key = tagged_value g.Key.FixedTag.tag _ g.Key.FixedTag.tag_is_valid })
    c.args.cursor.now _ _ _ _ _ _ (rw (c.new-at.ensures, c.rest.ensures) at c.in_ok-version.ensures.value) c.in_ok-algorithm.ensures.value
    c.in_ok-private_key.ensures.value (rw c.rest-2.ensures at c.in_err-tail.ensures.none))
