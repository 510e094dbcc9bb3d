use Rattle.tool_script.proofs.Readings.{have_one_reading, lead_the_requests}
use Rattle.tool_script.proofs.laws.scripts_have_one_reading.Goals as goal

pub returns-clause-one : goal.returns-clause-one
returns-clause-one c = have_one_reading

pub returns-clause-front : goal.returns-clause-front
returns-clause-front c = lead_the_requests
