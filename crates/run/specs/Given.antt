-- What fills the marks of a step, as it lies in memory.
use Rattle.run.specs.Steps.{Gv}
use Rattle.run.specs.declared.given.Given.{Given}

-- the marks of the fields, the values, and the register's answer
abbrev pub given_of : Given → Gv
given_of g = record { fields = g.fields.now; values = g.values.now; answer = g.answer }
