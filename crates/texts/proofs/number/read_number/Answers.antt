use Rattle.std.proofs.Common.{rules}
use Rattle.texts.proofs.Digits.{read_from}
use Rattle.texts.proofs.number.read_number.Goals as goal

pub returns : goal.returns
returns c = read_from c.args.word.now (search rules) (search rules) _ _ c.parse.ensures.value.0 (search rules)
