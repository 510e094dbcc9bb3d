use Rattle.token_time.specs.Nanoseconds.{nanoseconds_of, magnitude_of}
use Rattle.token_time.specs.Views.{number_value}
use Rattle.token_time.proofs.Times.{time_answer}
use Rattle.token_time.proofs.time.nanoseconds.Goals as goal

pub returns : goal.returns
unfolding nanoseconds_of
returns c =
    let n = number_value c.in_ok-number.number in
    rw (← c.in_ok-number.ensures.value) (time_answer c.time_of.result (magnitude_of n) c.in_ok-magnitude.magnitude n.negative c.in_ok-magnitude.ensures
    c.time_of.ensures)
