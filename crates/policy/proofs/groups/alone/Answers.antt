use Rattle.policy.proofs.groups.alone.Goals as goal
use Rattle.std.proofs.lemmas.List.{set_past, length-replicate}
use Rattle.std.proofs.Common.{true, false, replicate, sym, arith}

pub returns-else-operation-lt-OPERATIONS : goal.returns-else-operation-lt-OPERATIONS
returns-else-operation-lt-OPERATIONS c = sym (set_past (replicate 64 false) c.args.operation true (omega (arith, length-replicate 64 false, c.if-operation-lt-OPERATIONS.false)))
