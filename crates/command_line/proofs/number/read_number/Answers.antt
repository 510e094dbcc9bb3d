use Rattle.std.proofs.Common.{◌≡◌, Ok, rules}
use Rattle.std.proofs.lemmas.Fmt.{parse-decimal}
use Rattle.command_line.proofs.number.read_number.Goals as goal

pub returns-in-Err-clause-none : goal.returns-in-Err-clause-none
returns-in-Err-clause-none c = λ n small e. cc (parse-decimal 64 n _ _ small small e c.parse.ensures.value.0)

pub returns-else-eq-clause-none : goal.returns-else-eq-clause-none
returns-else-eq-clause-none c = λ n small e.
    let r : c.parse.result ≡ Ok n = parse-decimal 64 n _ _ small small e c.parse.ensures.value.0 in
    let same : c.in-Ok.n ≡ n = cc in
    let text : c.format.result.now ≡ c.args.text.now = cc e in search rules
