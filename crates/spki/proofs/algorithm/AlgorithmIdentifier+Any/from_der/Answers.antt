use Rattle.std.proofs.Common.{refl}
use Rattle.der_core.specs.Any.{plain_any}
use Rattle.der_core.specs.Laws.{content_fits}
use Rattle.der_core.proofs.Owned.{owned_refusal}
use Rattle.spki.specs.PlainAlgorithm.{ReadsAlgorithm, plain_algorithm}
use Rattle.spki.proofs.Owned.{ReadsAlgorithmRef, same_algorithms}
use Rattle.spki.proofs.algorithm.AlgorithmIdentifier+Any.from_der.Goals as goal

pub returns-in-Err : goal.returns-in-Err
returns-in-Err c = owned_refusal ReadsAlgorithmRef ReadsAlgorithm (plain_algorithm plain_any) c.args.bytes.now c.in-Err.error
    (same_algorithms (record {
      of = λ p t fits. record {
        tag = record { byte = p.tag; valid = t };
        value = record c.args.bytes { now = p.content };
        small =
            content_fits p.tag p.content fits;
      };
      is = λ p t fits. refl;
    })) c.in-Err.ensures
