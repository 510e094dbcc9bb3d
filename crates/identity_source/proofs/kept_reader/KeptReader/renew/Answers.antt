use Rattle.std.proofs.Common.{refl}
use Rattle.identity_source.proofs.Readers.{after, looked_none, missed}
use Rattle.identity_source.proofs.kept_reader.KeptReader.renew.Goals as goal

pub invariant_of-self : goal.invariant_of-self
invariant_of-self g c = (looked_none _ _ c.self.inside.kept _ _ _ c.self.inside.look refl c.self.invariant c.in-Ok.ensures.goes
    c.in-Ok.ensures.looked (record { planned = c.in-Ok.ensures.planned; passed = c.in-Ok.ensures.passed })).is_reader

pub invariant_of-self-in-Err : goal.invariant_of-self-in-Err
invariant_of-self-in-Err g c = (missed _ _ _ _ c.self.inside.look c.in-Err.missed c.self.invariant c.in-Err.ensures.goes c.in-Err.ensures.missed
    (record { planned = c.in-Err.ensures.planned; passed = c.in-Err.ensures.passed })).is_reader

pub returns-in-Ok : goal.returns-in-Ok
returns-in-Ok g c = after _ _ _ c.self.view_is (looked_none _ _ c.self.inside.kept _ _ _ c.self.inside.look refl c.self.invariant c.in-Ok.ensures.goes
    c.in-Ok.ensures.looked (record { planned = c.in-Ok.ensures.planned; passed = c.in-Ok.ensures.passed })).renewed

pub returns-in-Err : goal.returns-in-Err
returns-in-Err g c = after _ _ _ c.self.view_is (missed _ _ _ _ c.self.inside.look c.in-Err.missed c.self.invariant c.in-Err.ensures.goes
    c.in-Err.ensures.missed (record { planned = c.in-Err.ensures.planned; passed = c.in-Err.ensures.passed })).renewed
