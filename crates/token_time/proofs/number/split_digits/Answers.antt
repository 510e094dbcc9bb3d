use Rattle.token_time.proofs.Digits.{front_digits}
use Rattle.token_time.proofs.number.split_digits.Goals as goal

pub returns-clause-digits : goal.returns-clause-digits
returns-clause-digits c = rw (c.split_at.ensures.front, c.digits_len-len.ensures.len) (front_digits c.args.text.now)
